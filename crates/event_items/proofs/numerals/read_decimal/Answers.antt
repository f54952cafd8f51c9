use Rattle.std.proofs.Common.{◌≡◌, ◌<◌, ◌≤◌, inl, inr, length, sym, ◌∙◌, arith}
use Rattle.std.proofs.lemmas.Bool.Decides.{nat_tests}
use Rattle.event_items.proofs.DigitLemmas.{field-length, field-other, field-tried}
use Rattle.event_items.proofs.numerals.read_decimal.Goals as goal
use Rattle.event_items.proofs.numerals.read_decimal.Goals.{then-is_empty-via-then-is_empty, then-is_empty-via-else-is_empty+then-codes-gt-MOST_DIGITS}

pub returns-then-is_empty : goal.returns-then-is_empty
returns-then-is_empty c =
    elim c.then-is_empty.branch [
      | then-is_empty-via-then-is_empty w ↦
          let none : length c.args.codes.now ≡ 0 = grind (arith, nat_tests) in
          sym (field-length c.args.codes.now (inl none))
      | then-is_empty-via-else-is_empty+then-codes-gt-MOST_DIGITS w ↦
          let many : 10 < length c.args.codes.now = omega arith in
          sym (field-length c.args.codes.now (inr many))
    ]

pub returns-in_err-number : goal.returns-in_err-number
returns-in_err-number c =
    c.from_residual.ensures ∙ sym (field-other c.args.codes.now (sym c.in_err-number.ensures.digits))

pub returns : goal.returns
returns c =
    let some : 1 ≤ length c.args.codes.now = grind (arith, nat_tests) in
    let most : length c.args.codes.now ≤ 10 = omega arith in
    c.ok.ensures.value ∙ field-tried c.args.codes.now c.in_ok-number.number c.try_from.result (sym c.in_ok-number.ensures.digits) some most c.in_ok-number.ensures.number c.try_from.ensures
