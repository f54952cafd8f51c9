use Rattle.std.proofs.Common.{sym}
use Rattle.style_reader.proofs.NumberLemmas.{none-read, one_more-read}
use Rattle.style_reader.proofs.numbers.number_of.Goals as goal

pub digits-init : goal.digits-init
digits-init c = none-read

pub digits-preserved : goal.digits-preserved
digits-preserved c =
    let digit = c.in_ok-decimal_digit.ensures in
    rw c.min-number.ensures (one_more-read c.law_of_decimals.ensures.more c.args.digits.now c.digits.digit-index c.digits.number c.in_ok-decimal_digit.field-0 c.digits.invariant c.digits-test.true (sym digit.digit) digit.value)
