-- The first place that passes a test.
use Rattle.std.proofs.Common.{◌≡◌, ℕ, ◌+◌, ◌<◌, Bool, true, false, cond, List, [], ◌∷◌, length, refl, arith}
use Rattle.std.specs.Prelude.{◌||◌, not}
use Rattle.std.specs.List.{list_any, position_or_len}

any-by : (t u : Bool) (n k : ℕ) → cond (not t) (1 + n) 0 < k + 1 → (n < k → u ≡ true) → (t || u) ≡ true
any-by true u n k h f = refl
any-by false u n k h f = f (omega arith)

-- one passes before the end
pub any-first : {A : Type 0} → (p : A → Bool) (xs : List A) → position_or_len p xs < length xs → list_any p xs ≡ true
any-first p [] h = absurd (omega arith)
any-first p (x ∷ xs) h = any-by (p x) (list_any p xs) (position_or_len p xs) (length xs) (omega arith) (any-first p xs)

none-by : (t u : Bool) (n k : ℕ) → cond (not t) (1 + n) 0 ≡ k + 1 → (n ≡ k → u ≡ false) → (t || u) ≡ false
none-by true u n k h f = absurd (omega (arith, h))
none-by false u n k h f = f (omega (arith, h))

-- none passes
pub any-none : {A : Type 0} → (p : A → Bool) (xs : List A) → position_or_len p xs ≡ length xs → list_any p xs ≡ false
any-none p [] h = refl
any-none p (x ∷ xs) h = none-by (p x) (list_any p xs) (position_or_len p xs) (length xs) (omega (arith, h)) (any-none p xs)
