use Rattle.std.proofs.Common.{sym, ◌∙◌, ap}
use Rattle.std.specs.Prelude.{option_map}
use Rattle.es_lexer.specs.Views.{found_number}
use Rattle.es_lexer.proofs.DigitLemmas.{four_hex, none_hex, low_none_hex}
use Rattle.es_lexer.proofs.literals.four_hex_digits.Goals as goal

pub returns-in_err-high : goal.returns-in_err-high
returns-in_err-high c = ap (option_map found_number) c.from_residual.ensures ∙ none_hex c.args.codes.now (ap (option_map found_number) (sym (c.in_err-high.was {u = tt})) ∙ c.two_hex_digits.ensures.number)

pub returns-in_err-low : goal.returns-in_err-low
returns-in_err-low c =
    ap (option_map found_number) c.from_residual-in_err-low.ensures
    ∙ low_none_hex c.args.codes.now c.in_ok-high.high c.in_ok-high.rest.now
    (ap (option_map found_number) (sym (c.in_ok-high.was {u = tt})) ∙ c.two_hex_digits.ensures.number)
    (ap (option_map found_number) (sym (c.in_err-low.was {u = tt})) ∙ c.two_hex_digits-2.ensures.number)

pub returns : goal.returns
returns c = four_hex c.args.codes.now c.in_ok-high.high c.in_ok-low.low c.in_ok-high.rest.now c.in_ok-low.rest.now
    (ap (option_map found_number) (sym (c.in_ok-high.was {u = tt})) ∙ c.two_hex_digits.ensures.number)
    (ap (option_map found_number) (sym (c.in_ok-low.was {u = tt})) ∙ c.two_hex_digits-2.ensures.number)
