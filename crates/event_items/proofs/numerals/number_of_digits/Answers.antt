use Rattle.event_items.proofs.DigitLemmas.{none_read, one_more_read}
use Rattle.event_items.proofs.numerals.number_of_digits.Goals as goal

pub digits-init : goal.digits-init
digits-init c = none_read

pub digits-preserved : goal.digits-preserved
digits-preserved c =
    let digit = c.in_ok-number.ensures in
    one_more_read c.law_of_decimals.ensures.more c.args.codes.now c.digits.code-index c.digits.number c.in_ok-number.field-0 c.digits.invariant c.digits-test.true digit.digit digit.value digit.small
