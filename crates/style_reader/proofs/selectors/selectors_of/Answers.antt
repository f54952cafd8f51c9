use Rattle.std.proofs.Common.{ℕ, List, Option, sym, ap, ◌∙◌}
use Rattle.std.specs.Borrow.{Bor}
use Rattle.std.specs.Prelude.{option_copied}
use Rattle.style_reader.specs.Readings.{selector_of}
use Rattle.style_reader.specs.Rules.{is_comma}
use Rattle.style_reader.specs.devices.Views.{pieces_from}
use Rattle.style_reader.proofs.SelectorLemmas.{selectors-bad, selectors-last}
use Rattle.style_reader.proofs.selectors.selectors_of.Goals as goal

pub returns-in-None : goal.returns-in-None
returns-in-None c =
    let found = c.in_ok-selector.ensures {u = tt} ∙ ap selector_of c.trimmed.ensures in
    selectors-bad c.selectors.selectors.items c.selectors.rest.now c.first_piece.result.0.now c.args.text.now (option_copied c.first_piece.result.1) c.selectors.invariant c.first_piece.ensures.pieces (sym c.in-None.is ∙ found)

pub returns-in-None-behind : goal.returns-in-None-behind
returns-in-None-behind c =
    let found = c.in_ok-selector.ensures {u = tt} ∙ ap selector_of c.trimmed.ensures in
    let last = c.first_piece.ensures.pieces ∙ ap (λ (o : Option (Bor (List ℕ))). pieces_from is_comma c.first_piece.result.0.now (option_copied o)) c.in-None-behind.is in
    rw (c.in_ok-push-in-Some.ensures {u = tt}).items (selectors-last c.selectors.selectors.items c.in-Some.selector c.selectors.rest.now c.first_piece.result.0.now c.args.text.now c.selectors.invariant last (sym c.in-Some.is ∙ found))
