use Rattle.es_values.proofs.TurnLemmas.{changes-next}
use Rattle.es_values.proofs.arrays.changes.Goals as goal

pub loop-place-preserved : goal.loop-place-preserved
loop-place-preserved c = changes-next c.args.count c.args.properties.now c.loop-place.place c.loop-place.changes.items c.push_change.new.changes.items c.in_ok-push_change.ensures c.loop-place.invariant
