use Rattle.std.proofs.Common.{◌≡◌, ◌≤◌, length}
use Rattle.std.specs.Prelude.{min}
use Rattle.es_lexer.specs.ScannedNumbers.{number_behind}
use Rattle.es_lexer.proofs.numbers.number_of.Given as goal

abbrev pub invariant-digits : goal.invariant-digits
invariant-digits l = (l.number ≤ 2147483648) × (min 2147483648 (number_behind l.radix l.number l.rest) ≡ min 2147483648 (number_behind l.radix 0 l.digits))

abbrev pub decreases-digits : goal.decreases-digits
decreases-digits l = length l.rest
