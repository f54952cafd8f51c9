use Rattle.std.proofs.Common.{◌≡◌, ◌<◌, true, false, length, sym, ◌∙◌, ap, arith}
use Rattle.std.specs.Prelude.{min}
use Rattle.std.specs.List.{list_all}
use Rattle.std.proofs.lemmas.Bool.Decides.{nat_tests}
use Rattle.es_values.specs.Numerals.{is_digit_in, number_written}
use Rattle.es_values.specs.devices.Runs.{is_zero, without_front}
use Rattle.es_values.proofs.ZeroLemmas.{all-codes, many-codes, no-digits, other-codes}
use Rattle.es_values.proofs.numerals.signed_numeral.Goals as goal

pub returns-then-is_empty : goal.returns-then-is_empty
returns-then-is_empty c =
    let none : length c.args.digits.now ≡ 0 = grind (arith, nat_tests) in
    sym (no-digits c.args.negative c.args.base c.args.digits.now none)

pub returns-then-written-gt-MOST_DIGITS : goal.returns-then-written-gt-MOST_DIGITS
returns-then-written-gt-MOST_DIGITS c =
    let many : 32 < length (without_front is_zero c.args.digits.now) = omega (arith, ap length c.without_zeros-written.ensures) in
    sym (many-codes c.args.negative c.args.base c.args.digits.now c.requires.some many)

pub returns-then-not-are_all_digits : goal.returns-then-not-are_all_digits
returns-then-not-are_all_digits c =
    let other : list_all (is_digit_in c.args.base) (without_front is_zero c.args.digits.now) ≡ false =
    ap (list_all (is_digit_in c.args.base)) (sym c.without_zeros-written.ensures) ∙ (sym c.are_all_digits.ensures ∙ c.if-not-are_all_digits.true) in
    sym (other-codes c.args.negative c.args.base c.args.digits.now c.requires.some other)

pub returns : goal.returns
returns c =
    let there : 0 < length c.args.digits.now = grind (arith, nat_tests) in
    let all : list_all (is_digit_in c.args.base) (without_front is_zero c.args.digits.now) ≡ true =
    ap (list_all (is_digit_in c.args.base)) (sym c.without_zeros-written.ensures) ∙ (sym c.are_all_digits.ensures ∙ c.if-not-are_all_digits.false) in
    let number : c.number_of_digits.result ≡ min 4294967296 (number_written c.args.base (without_front is_zero c.args.digits.now)) =
    c.number_of_digits.ensures ∙ ap (λ z. min 4294967296 (number_written c.args.base z)) c.without_zeros-written.ensures in
    c.signed_number.ensures ∙ all-codes c.args.negative c.args.base c.number_of_digits.result c.args.digits.now c.requires.some there all number
