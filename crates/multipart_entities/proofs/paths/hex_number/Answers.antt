use Rattle.std.proofs.Common.{arith}
use Rattle.multipart_entities.proofs.HexLemmas.{none_read, one_more_fits, one_more_read}
use Rattle.multipart_entities.proofs.paths.hex_number.Goals as goal

pub digits-init : goal.digits-init
digits-init c = record { read = none_read; whole = omega arith; few = c.requires }

pub overflow_mul-number : goal.overflow_mul-number
overflow_mul-number c =
    let so_far = c.digits.invariant in
    let fits = one_more_fits _ c.digits.code-index c.digits.number so_far.read (omega arith) in
    omega arith

pub overflow_add-number : goal.overflow_add-number
overflow_add-number c =
    let so_far = c.digits.invariant in
    let fits = one_more_fits _ c.digits.code-index c.digits.number so_far.read (omega arith) in
    let digit = c.in_ok-number.ensures.small in
    omega arith

pub digits-preserved : goal.digits-preserved
digits-preserved c =
    let so_far = c.digits.invariant in
    let digit = c.in_ok-number.ensures in
    record {
      read = one_more_read c.law_of_digits.ensures.more c.args.field.now c.digits.code-index c.digits.number c.in_ok-number.field-0 so_far.read c.digits-test.true digit.digit digit.value digit.small;
      whole = so_far.whole;
      few = so_far.few;
    }
