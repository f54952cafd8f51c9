use Rattle.std.proofs.Common.{◌≤◌, ℕ, ◌*◌, ◌+◌, List, ◌∙◌, ap, sym, arith}
use Rattle.std.specs.Prelude.{min}
use Rattle.es_lexer.specs.Codes.{digit_value}
use Rattle.es_lexer.specs.ScannedNumbers.{number_behind}
use Rattle.es_lexer.proofs.numbers.number_of.Goals as goal
use Rattle.es_lexer.proofs.NumberLemmas.{saturate, all_digits}
use Rattle.es_lexer.proofs.CodeLemmas.{nothing-left}

pub digits-preserved : goal.digits-preserved
digits-preserved c =
    let radix = c.args.radix in
    let n : ℕ = c.digits.number in
    let d : ℕ = c.in-Some.digit.now in
    let more : List ℕ = c.in-Some.more.now in
    let small : c.with_digit-number.result ≤ 2147483648 = omega (arith, c.with_digit-number.ensures) in (
      small,
      ap (λ k. min 2147483648 (number_behind radix k more)) c.with_digit-number.ensures
          ∙ (saturate 2147483648 radix (n * radix + digit_value d) more c.requires.some
          ∙ (ap (λ z. min 2147483648 (number_behind radix n z)) (sym (c.in-Some.ensures {u = tt}).cases.0)
          ∙ c.digits.invariant.1)),
    )

pub returns : goal.returns
returns c = all_digits 2147483648 c.args.radix c.digits.number c.digits.rest.now c.args.digits.now (nothing-left c.digits.rest.now (c.in_default.ensures {u = tt}).cases) c.digits.invariant.0 c.digits.invariant.1
