use Rattle.std.proofs.Common.{◌∙◌, sym, ap}
use Rattle.std.specs.Option.{option_copied}
use Rattle.es_lexer.proofs.CodeLemmas.{split-found, split-next, split-none}
use Rattle.es_lexer.proofs.codes.split_at_mark.Goals as goal

pub returns-in-Some : goal.returns-in-Some
returns-in-Some c =
    let i = c.places.invariant in
    split-found c.args.mark.now c.args.codes.now i.0 c.places.rest.now c.in-Some.behind.now i.1 i.2 (sym c.stripped.ensures ∙ ap option_copied c.in-Some.is)

pub places-preserved : goal.places-preserved
places-preserved c =
    let i = c.places.invariant in
    split-next c.args.mark.now c.args.codes.now i.0 c.places.rest.now c.in-Some-split_first.more.now c.in-Some-split_first.field-0-0.now i.1 i.2 (sym c.stripped.ensures ∙ ap option_copied c.in_default.is) (c.in-Some-split_first.ensures {u = tt}).cases.0

pub returns-in-None : goal.returns-in-None
returns-in-None c =
    let i = c.places.invariant in
    split-none c.args.mark.now c.args.codes.now i.0 c.places.rest.now i.2 (sym c.stripped.ensures ∙ ap option_copied c.in_default.is) (c.in-None.ensures {u = tt}).cases
