use Rattle.std.proofs.Common.{◌-◌, arith, lit<}
use Rattle.es_values.proofs.DigitLemmas.{all_digits, next_digit, nothing-left}
use Rattle.es_values.proofs.texts.decimal_number.Goals as goal

pub digits-preserved : goal.digits-preserved
digits-preserved c = record {
  small = omega (arith, c.with_decimal_digit-number.ensures);
  same = next_digit (λ digit. digit - 48) 4294967296 10 c.digits.number c.in-Some.digit.now c.with_decimal_digit-number.result c.digits.rest.now c.in-Some.more.now c.args.codes.now (lit< tt) c.with_decimal_digit-number.ensures (c.in-Some.ensures {u = tt}).cases.0 c.digits.invariant.same;
}

pub returns : goal.returns
returns c = all_digits (λ digit. digit - 48) 4294967296 10 c.digits.number c.digits.rest.now c.args.codes.now (nothing-left c.digits.rest.now (c.in_default.ensures {u = tt}).cases) c.digits.invariant.small c.digits.invariant.same
