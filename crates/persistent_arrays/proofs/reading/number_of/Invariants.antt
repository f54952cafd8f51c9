use Rattle.std.proofs.Common.{◌≡◌, ◌<◌, ◌^◌, take}
use Rattle.bml_bytes.specs.Numbers.{big_number}
use Rattle.persistent_arrays.proofs.reading.number_of.Given as goal

abbrev pub invariant-bytes : goal.invariant-bytes
invariant-bytes l = record { value : l.number ≡ big_number (take l.byte-index l.bytes); small : l.number < 256 ^ l.byte-index }
