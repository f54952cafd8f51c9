use Rattle.std.proofs.Common.{take}
use Rattle.bml_bytes.proofs.numerals.number_of_digits.Given as goal
use Rattle.bml_bytes.proofs.NumeralLaws.{ReadSoFar}

abbrev pub invariant-loop-byte : goal.invariant-loop-byte
invariant-loop-byte l = ReadSoFar (take l.byte-index l.bytes) l.byte-index l.number
