use Rattle.std.proofs.Common.{take}
use Rattle.style_reader.proofs.NumberLemmas.{ReadSoFar}
use Rattle.style_reader.proofs.numbers.number_of.Given as goal

abbrev pub invariant-digits : goal.invariant-digits
invariant-digits l = ReadSoFar (take l.digit-index l.digits) l.number
