use Rattle.std.proofs.Common.{take}
use Rattle.event_items.proofs.DigitLemmas.{ReadSoFar}
use Rattle.event_items.proofs.numerals.number_of_digits.Given as goal

abbrev pub invariant-digits : goal.invariant-digits
invariant-digits l = ReadSoFar (take l.code-index l.codes) l.code-index l.number
