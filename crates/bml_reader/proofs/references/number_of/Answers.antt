use Rattle.std.proofs.Common.{◌≤◌, ℕ, ◌*◌, ◌+◌, List, ◌∙◌, ap, sym, arith}
use Rattle.std.specs.Prelude.{min}
use Rattle.bml_reader.specs.References.{number_behind, hex_value}
use Rattle.bml_reader.proofs.references.number_of.Goals as goal
use Rattle.bml_reader.proofs.ReferenceLemmas.{saturate}

pub digits-preserved : goal.digits-preserved
digits-preserved c =
    let base = c.args.base in
    let n : ℕ = c.digits.number in
    let d : ℕ = c.in-Some.digit.now in
    let more : List ℕ = c.in-Some.more.now in
    let small : c.with_digit-number.result ≤ 128 = omega (arith, c.with_digit-number.ensures) in (
      small,
      ap (λ k. min 128 (number_behind base k more)) c.with_digit-number.ensures
          ∙ (saturate base (n * base + hex_value d) more c.requires.some
          ∙ (ap (λ z. min 128 (number_behind base n z)) (sym (c.in-Some.ensures {u = tt}).cases.0)
          ∙ c.digits.invariant.1)),
    )
