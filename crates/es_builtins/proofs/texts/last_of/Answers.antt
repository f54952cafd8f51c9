use Rattle.std.proofs.Common.{sym, ◌∙◌}
use Rattle.es_builtins.specs.Texts.{stands_at}
use Rattle.es_builtins.proofs.PlaceLemmas.{last-before, last-here}
use Rattle.es_builtins.proofs.texts.last_of.Goals as goal

pub returns-then-stands_at : goal.returns-then-stands_at
returns-then-stands_at c =
    let hit = sym c.stands_at.ensures ∙ c.if-stands_at.true in
    sym (last-here (stands_at c.args.wanted.now c.args.text.now) c.loop-place.place c.loop-place-test.true hit) ∙ c.loop-place.invariant

pub loop-place-preserved : goal.loop-place-preserved
loop-place-preserved c =
    let miss = sym c.stands_at.ensures ∙ c.if-stands_at.false in
    sym (last-before (stands_at c.args.wanted.now c.args.text.now) c.loop-place.place c.loop-place-test.true miss) ∙ c.loop-place.invariant
