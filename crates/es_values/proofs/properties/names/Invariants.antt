use Rattle.std.proofs.Common.{◌≡◌, take, map}
use Rattle.es_values.specs.Slots.{standing}
use Rattle.es_values.proofs.properties.names.Given as goal

abbrev pub invariant-loop-slot : goal.invariant-loop-slot
invariant-loop-slot l = l.names.items ≡ map (λ property. property.0) (standing (take l.slot-index l.slot-items))
