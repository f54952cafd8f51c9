use Rattle.std.proofs.Common.{◌≡◌, ℤ, FitsSigned, rules, ap, ◌++◌, List, ℕ, ◌∙◌}
use Rattle.std.specs.Int.{w64}
use Rattle.std.proofs.lemmas.Int.{to_z-of_z}
use Rattle.bml_bytes.specs.Numerals.{signed_decimal_digits}
use Rattle.display_list.proofs.LineLemmas.{three-parts}
use Rattle.display_list.proofs.lines.push_two.Goals as goal

-- a number printed, which was handed on before
printed : (out before : List ℕ) (z number : ℤ) → out ≡ before ++ signed_decimal_digits z → z ≡ number → out ≡ before ++ signed_decimal_digits number
printed out before z number e same = e ∙ ap (λ (n : ℤ). before ++ signed_decimal_digits n) same

pub returns-clause-ok : goal.returns-clause-ok
returns-clause-ok c =
    let first : FitsSigned w64 c.args.first = search rules in
    let second : FitsSigned w64 c.args.second = search rules in
    three-parts c.args.out.now.items _ _ _ _ _ _
    (printed _ _ _ _ (c.in_ok-push_decimal.ensures {u = tt}).ok (to_z-of_z w64 c.args.first first))
    (c.in_ok-push_word.ensures {u = tt}).ok
    (printed _ _ _ _ (c.in_ok-push_decimal-2.ensures {u = tt}).ok (to_z-of_z w64 c.args.second second))
