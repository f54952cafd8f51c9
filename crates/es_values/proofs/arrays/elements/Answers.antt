use Rattle.es_values.proofs.ArrayLemmas.{elements-next}
use Rattle.es_values.proofs.arrays.elements.Goals as goal

pub loop-place-preserved : goal.loop-place-preserved
loop-place-preserved c = elements-next c.args.properties.now c.loop-place.place c.loop-place.elements.items c.push_element_at.new.out.items c.in_ok-push_element_at.ensures c.loop-place.invariant
