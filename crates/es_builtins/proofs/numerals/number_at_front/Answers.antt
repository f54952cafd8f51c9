use Rattle.std.proofs.Common.{◌≡◌, true, take, sym, ◌∙◌, ap}
use Rattle.std.specs.Prelude.{min, nat_lt, length}
use Rattle.es_values.specs.Numerals.{number_written}
use Rattle.es_values.specs.devices.Runs.{is_zero, without_front}
use Rattle.es_builtins.specs.Numerals.{digits_at_front}
use Rattle.es_builtins.proofs.ZeroLemmas.{no-front, some-front}
use Rattle.es_builtins.proofs.numerals.number_at_front.Goals as goal

pub returns-then-not-begins_with_digit : goal.returns-then-not-begins_with_digit
returns-then-not-begins_with_digit c =
    sym (no-front c.args.negative c.args.base c.args.text.now (sym c.begins_with_digit.ensures ∙ c.if-not-begins_with_digit.true))

pub returns : goal.returns
returns c =
    let there : nat_lt 0 (length (digits_at_front c.args.base c.args.text.now)) ≡ true = sym c.begins_with_digit.ensures ∙ c.if-not-begins_with_digit.false in
    let digits : c.digits_at_front-digits.result.now ≡ digits_at_front c.args.base (take 33 (without_front is_zero c.args.text.now)) =
    c.digits_at_front-digits.ensures ∙ ap (digits_at_front c.args.base) (c.first_codes.ensures ∙ ap (take 33) c.without_zeros.ensures) in
    let number : c.number_of_digits.result ≡ min 4294967296 (number_written c.args.base (digits_at_front c.args.base (take 33 (without_front is_zero c.args.text.now)))) =
    c.number_of_digits.ensures ∙ ap (λ l. min 4294967296 (number_written c.args.base l)) digits in
    c.signed_number.ensures ∙ some-front c.args.negative c.args.base c.number_of_digits.result c.args.text.now c.requires.some there number
