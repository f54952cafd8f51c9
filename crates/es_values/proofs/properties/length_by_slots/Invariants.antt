use Rattle.std.proofs.Common.{◌≡◌, ◌-◌, ◌^◌, take}
use Rattle.std.specs.Prelude.{min}
use Rattle.es_values.specs.Lengths.{elements_codes}
use Rattle.es_values.specs.Slots.{standing}
use Rattle.es_values.proofs.properties.length_by_slots.Given as goal

abbrev pub invariant-loop-slot : goal.invariant-loop-slot
invariant-loop-slot l = l.total ≡ min (elements_codes l.count (standing (take l.slot-index l.slot-items))) (2 ^ 64 - 1)
