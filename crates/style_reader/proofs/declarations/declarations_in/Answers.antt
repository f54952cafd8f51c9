use Rattle.std.proofs.Common.{ℕ, List, Option, ap, ◌∙◌}
use Rattle.std.specs.Borrow.{Bor}
use Rattle.std.specs.Prelude.{option_copied}
use Rattle.style_reader.specs.Declarations.{is_semicolon}
use Rattle.style_reader.specs.devices.Views.{pieces_from}
use Rattle.style_reader.proofs.DeclarationLemmas.{declarations-last}
use Rattle.style_reader.proofs.declarations.declarations_in.Goals as goal

pub returns-in-None : goal.returns-in-None
returns-in-None c =
    let last = c.first_piece.ensures.pieces ∙ ap (λ (o : Option (Bor (List ℕ))). pieces_from is_semicolon c.first_piece.result.0.now (option_copied o)) c.in-None.is in
    declarations-last c.declarations.declarations.items c.push_declaration.new.out.items c.declarations.rest.now c.first_piece.result.0.now c.args.text.now c.declarations.invariant last (c.in_ok-push_declaration.ensures {u = tt})
