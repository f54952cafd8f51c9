use Rattle.std.proofs.Common.{◌++◌, List, ℕ, ap, sym, ◌∙◌}
use Rattle.bml_bytes.proofs.NumeralLaws.{decimal_digits-is}
use Rattle.bml_bytes.proofs.line_fields.push_count.Goals as goal

pub returns-clause-ok : goal.returns-clause-ok
returns-clause-ok c =
    c.in_ok-extend_from_slice.ensures.items
    ∙ ap (λ (bytes : List ℕ). c.args.out.now.items ++ bytes) (c.as_bytes.ensures.value ∙ c.format.ensures.text ∙ sym (decimal_digits-is c.args.count c.ranges.count.fits))
