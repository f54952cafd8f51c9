use Rattle.std.proofs.Common.{◌≡◌, ◌≤◌, ◌++◌, drop, length}
use Rattle.bml_bytes.specs.Codes.{bytes_of}
use Rattle.persistent_arrays.proofs.packing.text_bytes.Given as goal

abbrev pub invariant-codes : goal.invariant-codes
invariant-codes l = record { value : l.bytes.items ++ bytes_of (drop l.code-index l.text) ≡ bytes_of l.text; room : length l.bytes.items ≤ 64 }
