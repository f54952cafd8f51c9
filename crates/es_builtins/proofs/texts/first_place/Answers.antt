use Rattle.std.proofs.Common.{sym, ◌∙◌, ap, arith}
use Rattle.es_builtins.specs.Texts.{first_place}
use Rattle.es_builtins.proofs.PlaceLemmas.{first_place-found, first_place-next, first_place-past}
use Rattle.es_builtins.proofs.texts.first_place.Goals as goal

pub returns-then-stands_at : goal.returns-then-stands_at
returns-then-stands_at c =
    let hit = sym c.stands_at.ensures ∙ c.if-stands_at.true in
    sym (first_place-found c.args.wanted.now c.args.text.now c.loop-place.place hit (omega arith))
    ∙ (c.loop-place.invariant ∙ ap (first_place c.args.wanted.now c.args.text.now) c.least_place-start.ensures)

pub loop-place-preserved : goal.loop-place-preserved
loop-place-preserved c =
    let miss = sym c.stands_at.ensures ∙ c.if-stands_at.false in
    sym (first_place-next c.args.wanted.now c.args.text.now c.loop-place.place miss) ∙ c.loop-place.invariant

pub returns : goal.returns
returns c =
    sym (first_place-past c.args.wanted.now c.args.text.now c.loop-place.place (omega arith))
    ∙ (c.loop-place.invariant ∙ ap (first_place c.args.wanted.now c.args.text.now) c.least_place-start.ensures)
