-- The digits at the front of a text, code by code.
use Rattle.std.proofs.Common.{◌≡◌, ℕ, suc, ◌+◌, Bool, true, false, cond, List, [], ◌∷◌, length, take, refl, sym, ◌∙◌, ap, arith}
use Rattle.std.specs.Prelude.{◌&&◌, nat_lt}
use Rattle.std.specs.List.{prefix_len}
use Rattle.std.proofs.lemmas.Bool.Decides.{nat_tests}
use Rattle.es_values.specs.Numerals.{is_digit_in}
use Rattle.es_builtins.specs.Numerals.{digits_at_front}

pub both : (a b : Bool) → (a && b) ≡ true → (a ≡ true) × (b ≡ true)
both true b h = (refl, h)
both false b h = absurd (cc h)

-- a front that begins with a digit, and one that doesn't
pub front-digit : (base d : ℕ) (ds : List ℕ) → is_digit_in base d ≡ true → digits_at_front base (d ∷ ds) ≡ d ∷ digits_at_front base ds
front-digit base d ds h =
    let on : 1 + prefix_len (is_digit_in base) ds ≡ suc (prefix_len (is_digit_in base) ds) = omega arith in
    ap (λ t. take (cond t (1 + prefix_len (is_digit_in base) ds) 0) (d ∷ ds)) h ∙ ap (λ k. take k (d ∷ ds)) on

pub front-other : (base d : ℕ) (ds : List ℕ) → is_digit_in base d ≡ false → digits_at_front base (d ∷ ds) ≡ []
front-other base d ds h = ap (λ t. take (cond t (1 + prefix_len (is_digit_in base) ds) 0) (d ∷ ds)) h

-- whether there is a digit is told by the first code
pub first-digit : (base d : ℕ) (ds : List ℕ) → is_digit_in base d ≡ nat_lt 0 (length (digits_at_front base (d ∷ ds)))
first-digit base d ds = by (is_digit_in base d) refl
  where
    by : (t : Bool) → is_digit_in base d ≡ t → t ≡ nat_lt 0 (length (digits_at_front base (d ∷ ds)))
    by true e = sym (ap (λ l. nat_lt 0 (length l)) (front-digit base d ds e) ∙ grind (arith, nat_tests))
    by false e = sym (ap (λ l. nat_lt 0 (length l)) (front-other base d ds e))
