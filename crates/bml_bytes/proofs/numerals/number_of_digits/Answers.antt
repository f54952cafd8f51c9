use Rattle.std.proofs.Common.{sym}
use Rattle.bml_bytes.proofs.NumeralLaws.{none-read, one_more-read}
use Rattle.bml_bytes.proofs.numerals.number_of_digits.Goals as goal

pub loop-byte-init : goal.loop-byte-init
loop-byte-init c = none-read

pub loop-byte-preserved : goal.loop-byte-preserved
loop-byte-preserved c =
    let digit = c.in_ok-number.ensures in
    one_more-read c.args.bytes.now c.loop-byte.byte-index c.loop-byte.number c.in_ok-number.field-0 c.loop-byte.invariant c.loop-byte-test.true (sym digit.digit) digit.value digit.small
