use Rattle.std.proofs.Common.{◌≡◌, ◌≤◌, take}
use Rattle.std.specs.Prelude.{count_by}
use Rattle.es_values.specs.Heaps.{is_element_from}
use Rattle.es_values.specs.Slots.{standing}
use Rattle.es_values.proofs.property_map.count_from.Given as goal

abbrev pub invariant-loop-slot : goal.invariant-loop-slot
invariant-loop-slot l = record {
  counted : l.count ≡ count_by (is_element_from l.place) (standing (take l.slot-index l.slots));
  small : l.count ≤ l.slot-index;
}
