use Rattle.std.proofs.Common.{sym, ◌∙◌}
use Rattle.es_builtins.proofs.PlaceLemmas.{last_place-none, last_place-of}
use Rattle.es_builtins.proofs.texts.last_place.Goals as goal

pub returns-in_err-start : goal.returns-in_err-start
returns-in_err-start c =
    c.from_residual.ensures ∙ sym (last_place-none c.args.wanted.now c.args.text.now c.args.most (c.in_err-start.ensures {u = tt}).none)

pub returns : goal.returns
returns c =
    let start = c.in_ok-start.ensures {u = tt} in
    c.last_of.ensures ∙ sym (last_place-of c.args.wanted.now c.args.text.now c.args.most c.in_ok-start.start start.within start.places)
