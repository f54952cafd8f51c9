use Rattle.std.proofs.Common.{◌≡◌, ◌≤◌, ◌-◌, length}
use Rattle.std.specs.Prelude.{min}
use Rattle.es_values.proofs.DigitLemmas.{number_behind}
use Rattle.es_values.proofs.texts.decimal_number.Given as goal

abbrev pub invariant-digits : goal.invariant-digits
invariant-digits l = record {
  small : l.number ≤ 4294967296;
  same : min 4294967296 (number_behind (λ digit. digit - 48) 10 l.number l.rest) ≡ min 4294967296 (number_behind (λ digit. digit - 48) 10 0 l.codes);
}

abbrev pub decreases-digits : goal.decreases-digits
decreases-digits l = length l.rest
