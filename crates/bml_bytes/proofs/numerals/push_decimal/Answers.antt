use Rattle.std.proofs.Common.{◌++◌, List, ℕ, ap, sym, ◌∙◌}
use Rattle.std.specs.Fmt.{signed_decimal}
use Rattle.std.specs.Int.{w64}
use Rattle.std.proofs.lemmas.Int.{to_z-of_z}
use Rattle.bml_bytes.proofs.NumeralLaws.{signed_decimal_digits-is}
use Rattle.bml_bytes.proofs.numerals.push_decimal.Goals as goal

pub returns-clause-ok : goal.returns-clause-ok
returns-clause-ok c =
    let same = signed_decimal_digits-is c.args.value c.ranges.value.sfits in
    c.in_ok-extend_from_slice.ensures.items
    ∙ ap (λ (bytes : List ℕ). c.args.out.now.items ++ bytes) (c.as_bytes.ensures.value ∙ (c.format.ensures.text ∙ ap signed_decimal (to_z-of_z w64 c.args.value c.ranges.value)) ∙ sym same)
