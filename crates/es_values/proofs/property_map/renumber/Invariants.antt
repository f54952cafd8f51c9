use Rattle.es_values.proofs.SlotLemmas.{AreNumbered}
use Rattle.es_values.proofs.property_map.renumber.Given as goal

abbrev pub invariant-loop-place : goal.invariant-loop-place
invariant-loop-place l = AreNumbered l.place l.places.entries l.slots
