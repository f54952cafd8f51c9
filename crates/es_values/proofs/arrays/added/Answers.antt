use Rattle.std.proofs.Common.{◌-◌, refl}
use Rattle.es_values.proofs.TurnLemmas.{added-next}
use Rattle.es_values.proofs.arrays.added.Goals as goal

pub loop-place-preserved : goal.loop-place-preserved
loop-place-preserved c =
    added-next c.args.count c.args.properties.now c.loop-place.place (c.args.count - 1 - c.loop-place.place) c.loop-place.added.items c.push_new_element.new.added.items c.push_new_element-in-loop-place.new.added.items refl c.in_ok-push_new_element.ensures c.in_ok-push_new_element-2.ensures c.loop-place.invariant
