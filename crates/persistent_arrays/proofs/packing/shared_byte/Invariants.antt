use Rattle.std.proofs.Common.{◌≡◌, ◌+◌, ◌*◌, ◌≤◌, drop}
use Rattle.persistent_arrays.specs.Packing.{weighed}
use Rattle.persistent_arrays.proofs.packing.shared_byte.Given as goal

abbrev pub invariant-bits : goal.invariant-bits
invariant-bits l = record { value : l.byte + weighed l.weight (drop l.bit-index l.bits) ≡ weighed 128 l.bits; room : l.byte + 2 * l.weight ≤ 256 }
