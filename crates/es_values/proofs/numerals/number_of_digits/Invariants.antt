use Rattle.std.proofs.Common.{◌≡◌, ◌≤◌, length}
use Rattle.std.specs.Prelude.{min}
use Rattle.es_values.specs.Numerals.{digit_value}
use Rattle.es_values.proofs.DigitLemmas.{number_behind}
use Rattle.es_values.proofs.numerals.number_of_digits.Given as goal

abbrev pub invariant-digits : goal.invariant-digits
invariant-digits l = record {
  small : l.number ≤ 4294967296;
  same : min 4294967296 (number_behind digit_value l.base l.number l.rest) ≡ min 4294967296 (number_behind digit_value l.base 0 l.digits);
}

abbrev pub decreases-digits : goal.decreases-digits
decreases-digits l = length l.rest
