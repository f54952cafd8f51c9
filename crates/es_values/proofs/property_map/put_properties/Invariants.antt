use Rattle.std.proofs.Common.{◌≡◌, ◌≤◌, ◌+◌}
use Rattle.std.specs.Vec.{vec_capacity, vec_len}
use Rattle.indexmap.specs.IndexMap.{insert_all, spare}
use Rattle.bml_bytes.specs.Words.{is_same}
use Rattle.es_values.specs.Slots.{Indexes, standing}
use Rattle.es_values.specs.devices.Indices.{AreKept, indices_of}
use Rattle.es_values.proofs.property_map.put_properties.Given as goal

abbrev pub invariant-loop-property : goal.invariant-loop-property
invariant-loop-property l = record {
  indexed : Indexes l.places.entries l.slots.items;
  done : standing l.slots.items ≡ insert_all is_same (standing l.initial.slots.items) l.yielded;
  kept : AreKept l.initial.indices (indices_of (standing l.initial.slots.items)) → AreKept l.indices (indices_of (standing l.slots.items));
  places : l.property-iterator.rest.len ≤ spare l.places;
  slots : vec_len l.slots + l.property-iterator.rest.len ≤ vec_capacity l.slots;
}
