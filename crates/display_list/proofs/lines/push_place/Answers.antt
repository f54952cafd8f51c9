use Rattle.std.proofs.Common.{◌≡◌, ℤ, to_z, of_z, ap, ◌++◌, List, ℕ, ◌∙◌, arith}
use Rattle.std.specs.Prelude.{codes}
use Rattle.std.specs.Int.{w64}
use Rattle.std.proofs.lemmas.Int.{ints}
use Rattle.bml_bytes.specs.Numerals.{signed_decimal_digits}
use Rattle.display_list.specs.Show.{place_fields}
use Rattle.display_list.proofs.LineLemmas.{four-fields}
use Rattle.display_list.proofs.lines.push_place.Goals as goal

-- two numbers printed, which were widened before
printed : (out before : List ℕ) (z w first second : ℤ) → out ≡ before ++ (signed_decimal_digits z ++ codes " " ++ signed_decimal_digits w) → z ≡ first → w ≡ second → out ≡ before ++ (signed_decimal_digits first ++ codes " " ++ signed_decimal_digits second)
printed out before z w first second e f g =
    e ∙ (ap (λ (n : ℤ). before ++ (signed_decimal_digits n ++ codes " " ++ signed_decimal_digits w)) f
    ∙ ap (λ (n : ℤ). before ++ (signed_decimal_digits first ++ codes " " ++ signed_decimal_digits n)) g)

pub returns-clause-ok : goal.returns-clause-ok
unfolding place_fields
returns-clause-ok c =
    let x : to_z w64 (of_z w64 c.from.result) ≡ c.args.place.x = omega (arith, ints) in
    let y : to_z w64 (of_z w64 c.from-2.result) ≡ c.args.place.y = omega (arith, ints) in
    let width : to_z w64 (of_z w64 c.from-3.result) ≡ c.args.place.width = omega (arith, ints) in
    let height : to_z w64 (of_z w64 c.from-4.result) ≡ c.args.place.height = omega (arith, ints) in
    four-fields c.args.out.now.items (signed_decimal_digits c.args.place.x) (signed_decimal_digits c.args.place.y) (signed_decimal_digits c.args.place.width) (signed_decimal_digits c.args.place.height) _ _ _
    (printed _ _ _ _ c.args.place.x c.args.place.y (c.in_ok-push_two.ensures {u = tt}).ok x y)
    (c.in_ok-push_word.ensures {u = tt}).ok
    (printed _ _ _ _ c.args.place.width c.args.place.height (c.in_ok-push_two-2.ensures {u = tt}).ok width height)
