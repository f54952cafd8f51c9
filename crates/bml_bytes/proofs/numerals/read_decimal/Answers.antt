use Rattle.std.proofs.Common.{◌≡◌, ◌<◌, ◌≤◌, inl, inr, length, sym, ◌∙◌, arith}
use Rattle.std.proofs.lemmas.Bool.Decides.{nat_tests}
use Rattle.bml_bytes.proofs.NumeralLaws.{decimal_field-length, decimal_field-other, decimal_field-tried}
use Rattle.bml_bytes.proofs.numerals.read_decimal.Goals as goal
use Rattle.bml_bytes.proofs.numerals.read_decimal.Goals.{then-is_empty-via-then-is_empty, then-is_empty-via-else-is_empty+then-bytes-gt-MOST_DIGITS}

pub returns-then-is_empty : goal.returns-then-is_empty
returns-then-is_empty c =
    elim c.then-is_empty.branch [
      | then-is_empty-via-then-is_empty w ↦
          let none : length c.args.bytes.now ≡ 0 = grind (arith, nat_tests) in
          sym (decimal_field-length c.args.bytes.now (inl none))
      | then-is_empty-via-else-is_empty+then-bytes-gt-MOST_DIGITS w ↦
          let many : 10 < length c.args.bytes.now = omega arith in
          sym (decimal_field-length c.args.bytes.now (inr many))
    ]

pub returns-in_err-number : goal.returns-in_err-number
returns-in_err-number c =
    c.from_residual.ensures ∙ sym (decimal_field-other c.args.bytes.now (sym c.in_err-number.ensures.digits))

pub returns : goal.returns
returns c =
    let some : 1 ≤ length c.args.bytes.now = grind (arith, nat_tests) in
    let most : length c.args.bytes.now ≤ 10 = omega arith in
    c.ok.ensures.value ∙ decimal_field-tried c.args.bytes.now c.in_ok-number.number c.try_from.result (sym c.in_ok-number.ensures.digits) some most c.in_ok-number.ensures.number c.try_from.ensures
