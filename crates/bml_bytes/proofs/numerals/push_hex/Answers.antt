use Rattle.std.proofs.Common.{◌++◌, List, ℕ, ap, ◌∙◌}
use Rattle.bml_bytes.proofs.NumeralLaws.{printed-hex_digits}
use Rattle.bml_bytes.proofs.numerals.push_hex.Goals as goal

pub returns-clause-ok : goal.returns-clause-ok
returns-clause-ok c =
    c.in_ok-extend_from_slice.ensures.items
    ∙ ap (λ (bytes : List ℕ). c.args.out.now.items ++ bytes) (printed-hex_digits c.args.digits c.args.value c.from.result c.eight_hex_digits-all.result c.requires.most c.from.ensures c.eight_hex_digits-all.ensures)
