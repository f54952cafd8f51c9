use Rattle.es_values.proofs.TurnLemmas.{changed-next}
use Rattle.es_values.proofs.arrays.change_all.Goals as goal

pub loop-change-preserved : goal.loop-change-preserved
loop-change-preserved c = changed-next c.args.properties.now c.loop-change.properties c.make_change.new.properties c.loop-change.yielded c.in-Some.change c.make_change.ensures c.loop-change.invariant
