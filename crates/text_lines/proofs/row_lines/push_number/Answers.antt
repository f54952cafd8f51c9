use Rattle.std.proofs.Common.{◌<◌, ◌^◌, ◌+◌, ◌++◌, List, ℕ, ap, sym, ◌∙◌, arith}
use Rattle.std.specs.Fmt.{signed_decimal}
use Rattle.std.specs.Int.{w128}
use lib.Signed.{mag}
use Rattle.std.proofs.lemmas.Int.{to_z-of_z}
use Rattle.text_lines.proofs.NumberLaws.{signed_digits-are}
use Rattle.text_lines.proofs.row_lines.push_number.Goals as goal

pub returns-clause-ok : goal.returns-clause-ok
returns-clause-ok c =
    let small : mag c.args.number + 1 < 10 ^ 64 = omega (arith, c.ranges.number.sfits) in
    let same = signed_digits-are c.args.number small in
    c.in_ok-extend_from_slice.ensures.items
    ∙ ap (λ (bytes : List ℕ). c.args.out.now.items ++ bytes) (c.as_bytes.ensures.value ∙ (c.format.ensures.text ∙ ap signed_decimal (to_z-of_z w128 c.args.number c.ranges.number)) ∙ sym same)
