use Rattle.std.proofs.Common.{◌∙◌, ◌≡◌, take, length, ap, arith}
use Rattle.std.specs.Prelude.{min}
use Rattle.std.proofs.lemmas.List.{take_min}
use Rattle.es_builtins.specs.declared.numerals.TheConstants.{DIGITS_PAST_RANGE}
use Rattle.es_builtins.proofs.numerals.first_codes.Goals as goal

pub returns : goal.returns
returns c =
    let turned : c.min.result ≡ min DIGITS_PAST_RANGE (length c.args.text.now) = omega (arith, c.min.ensures) in
    ap (λ k. take k c.args.text.now) turned ∙ take_min DIGITS_PAST_RANGE c.args.text.now
