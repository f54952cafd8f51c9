use Rattle.std.proofs.Common.{◌≡◌, drop}
use Rattle.persistent_arrays.specs.Packing.{packed}
use Rattle.persistent_arrays.specs.devices.Packers.{packed_after}
use Rattle.persistent_arrays.proofs.packing.packed_bytes.Given as goal

abbrev pub invariant-fields : goal.invariant-fields
invariant-fields l = packed_after l.packer.bytes.items l.packer.bits.items (drop l.place l.kinds) (drop l.place l.fields) ≡ packed l.kinds l.fields
