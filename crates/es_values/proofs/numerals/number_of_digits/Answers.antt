use Rattle.std.proofs.Common.{arith}
use Rattle.es_values.specs.Numerals.{digit_value}
use Rattle.es_values.proofs.DigitLemmas.{all_digits, next_digit, nothing-left}
use Rattle.es_values.proofs.numerals.number_of_digits.Goals as goal

pub digits-preserved : goal.digits-preserved
digits-preserved c = record {
  small = omega (arith, c.with_digit-number.ensures);
  same = next_digit digit_value 4294967296 c.args.base c.digits.number c.in-Some.digit.now c.with_digit-number.result c.digits.rest.now c.in-Some.more.now c.args.digits.now c.requires.some c.with_digit-number.ensures (c.in-Some.ensures {u = tt}).cases.0 c.digits.invariant.same;
}

pub returns : goal.returns
returns c = all_digits digit_value 4294967296 c.args.base c.digits.number c.digits.rest.now c.args.digits.now (nothing-left c.digits.rest.now (c.in_default.ensures {u = tt}).cases) c.digits.invariant.small c.digits.invariant.same
