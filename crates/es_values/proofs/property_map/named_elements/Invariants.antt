use Rattle.std.proofs.Common.{◌≡◌, length}
use Rattle.es_values.specs.Slots.{placed}
use Rattle.es_values.proofs.property_map.named_elements.Given as goal

abbrev pub invariant-loop-element : goal.invariant-loop-element
invariant-loop-element l = record {
  done : l.properties.items ≡ placed 0 l.yielded;
  counted : l.place ≡ length l.yielded;
}
