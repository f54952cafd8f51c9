-- Numbers that their fields have room for.
use Rattle.std.proofs.Common.{◌≡◌, ℕ, zero, suc, ◌-◌, ◌*◌, ◌%◌, ◌^◌, ◌<◌, ◌≤◌, inl, inr, refl, sym, ap, subst, ◌∙◌, arith}
use Rattle.std.specs.Prelude.{ℤ, pos, ◌-ℤ◌}
use Rattle.std.proofs.Math.IntN.{negsuc}
use Rattle.std.proofs.Math.Nat.{mod-eq_of_lt}
use Rattle.std.proofs.lemmas.Bool.{lt-ltb, le-ltb}
use Rattle.std.proofs.lemmas.Int.{ints}
use Rattle.persistent_arrays.specs.declared.fields.Field.TheVariants.{Whole}
use Rattle.persistent_arrays.specs.declared.kinds.FieldKind.TheVariants.{Unsigned, Signed}
use Rattle.persistent_arrays.specs.Fields.{signed_number, unsigned_number}
use Rattle.persistent_arrays.specs.Kept.{kept_value}
use Rattle.persistent_arrays.specs.Structures.{IsKind}

whole : (size number : ℕ) → number * 2 < 256 ^ size → signed_number size number ≡ pos number
whole size number h = rw (lt-ltb (number * 2) (256 ^ size) h) refl

pub unsigned : (size number : ℕ) → IsKind (Unsigned size) → number < 256 ^ size → number < 2 ^ 31 → kept_value (Unsigned size) (Whole (pos number)) ≡ Whole (pos number)
unsigned size number kind fits small =
    let low : number % 256 ^ size ≡ number = mod-eq_of_lt fits in
    let half : number * 2 < 256 ^ 4 = omega arith in
    ap (λ (n : ℕ). Whole (unsigned_number n)) low ∙ ap Whole (whole 4 number half)

pub signed : (size number : ℕ) → IsKind (Signed size) → number * 2 < 256 ^ size → kept_value (Signed size) (Whole (pos number)) ≡ Whole (pos number)
signed size number kind fits =
    let below : number < 256 ^ size = omega arith in
    let low : number % 256 ^ size ≡ number = mod-eq_of_lt below in
    ap (λ (n : ℕ). Whole (signed_number size n)) low ∙ ap Whole (whole size number fits)

lower : (room less : ℕ) → suc less ≤ room → pos (room - suc less) -ℤ pos room ≡ negsuc less
lower room less h = omega (arith, ints)

below-zero : (size less : ℕ) → suc less * 2 ≤ 256 ^ size → signed_number size (256 ^ size - suc less) ≡ negsuc less
below-zero size less h =
    let upper : 256 ^ size ≤ (256 ^ size - suc less) * 2 = omega arith in
    rw (le-ltb ((256 ^ size - suc less) * 2) (256 ^ size) upper) (lower (256 ^ size) less (omega arith))

low-below : (size less : ℕ) → IsKind (Signed size) → suc less * 2 ≤ 256 ^ size → (2 ^ 32 - suc less) % 256 ^ size ≡ 256 ^ size - suc less
low-below size less (inl e) h = rw e (by (rw e at h))
  where
    by : suc less * 2 ≤ 256 ^ 1 → (2 ^ 32 - suc less) % 256 ^ 1 ≡ 256 ^ 1 - suc less
    by h = omega arith
low-below size less (inr (inl e)) h = rw e (by (rw e at h))
  where
    by : suc less * 2 ≤ 256 ^ 2 → (2 ^ 32 - suc less) % 256 ^ 2 ≡ 256 ^ 2 - suc less
    by h = omega arith
low-below size less (inr (inr e)) h = rw e (by (rw e at h))
  where
    by : suc less * 2 ≤ 256 ^ 4 → (2 ^ 32 - suc less) % 256 ^ 4 ≡ 256 ^ 4 - suc less
    by h = omega arith

below : (size less : ℕ) → IsKind (Signed size) → suc less * 2 ≤ 256 ^ size → kept_value (Signed size) (Whole (negsuc less)) ≡ Whole (negsuc less)
below size less kind h = ap (λ (n : ℕ). Whole (signed_number size n)) (low-below size less kind h) ∙ ap Whole (below-zero size less h)

negated : (less : ℕ) → pos 0 -ℤ pos (suc less) ≡ negsuc less
negated less = omega (arith, ints)

some : (size : ℕ) → IsKind (Signed size) → 0 * 2 < 256 ^ size
some size (inl e) = rw e (omega arith)
some size (inr (inl e)) = rw e (omega arith)
some size (inr (inr e)) = rw e (omega arith)

pub negative : (size number : ℕ) → IsKind (Signed size) → number * 2 ≤ 256 ^ size → kept_value (Signed size) (Whole (pos 0 -ℤ pos number)) ≡ Whole (pos 0 -ℤ pos number)
negative size zero kind h = signed size 0 kind (some size kind)
negative size (suc less) kind h = subst (λ (z : ℤ). kept_value (Signed size) (Whole z) ≡ Whole z) (sym (negated less)) (below size less kind h)
