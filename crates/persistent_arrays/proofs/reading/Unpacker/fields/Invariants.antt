use Rattle.std.proofs.Common.{◌≡◌, ◌++◌, drop}
use Rattle.std.specs.Prelude.{option_map}
use Rattle.persistent_arrays.specs.devices.Unpackers.{unpacked_behind}
use Rattle.persistent_arrays.proofs.reading.Unpacker.fields.Given as goal

abbrev pub invariant-fields : goal.invariant-fields
invariant-fields l =
    option_map (λ rest. l.fields.items ++ rest) (unpacked_behind l.self.bits.items (drop l.kind-index l.kinds) l.self.bytes)
    ≡ unpacked_behind l.initial.self.bits.items l.kinds l.initial.self.bytes
