-- What `position` tells: the first place at which a test passes, or that it passes nowhere.
use Rattle.std.proofs.Common.{◌≡◌, ℕ, ◌+◌, ◌<◌, ◌≤◌, Bool, true, false, cond, List, ◌∷◌, ◌++◌, All}
use Rattle.std.proofs.Common.{length, take, drop, get_or, position, Some, None, ltb, refl, subst}
use Rattle.std.proofs.Common.{ltb-true, ltb-false, arith}
use Rattle.std.specs.List.{position_or_len}
use Rattle.std.proofs.lemmas.List.Sums.{split_at_first, fails_before_first, passes_at_first}
use Rattle.std.proofs.lemmas.Option.{cond_some}
use Rattle.std.proofs.lemmas.Grind.{common_steps}

-- the test fails at each place before this one and passes at it
pub record IsFirstPlace (p : ℕ → Bool) (xs : List ℕ) (place : ℕ) : Type 0 where
  pub is_within : place < length xs
  pub before : All (λ x. p x ≡ false) (take place xs)
  pub here : (d : ℕ) → p (get_or xs place d) ≡ true
  pub cut : (d : ℕ) → xs ≡ take place xs ++ get_or xs place d ∷ drop (place + 1) xs

first_here : (p : ℕ → Bool) (xs : List ℕ) → position_or_len p xs < length xs
    → IsFirstPlace p xs (position_or_len p xs)
first_here p xs l = record {
  is_within = l;
  before = λ k d m. let h : p (get_or xs k d) ≡ false =
      fails_before_first p xs k d (grind (arith, common_steps)) in grind (arith, common_steps);
  here = λ d. passes_at_first p xs d l;
  cut = λ d. split_at_first p xs d l;
}

pub first_place : (p : ℕ → Bool) (xs : List ℕ) (place : ℕ) → position p xs ≡ Some place
    → IsFirstPlace p xs place
first_place p xs place e =
    let h : (ltb (position_or_len p xs) (length xs) ≡ true) × (position_or_len p xs ≡ place) =
    cond_some _ _ _ e in
    let P : ℕ → Type 0 = IsFirstPlace p xs in
    subst P (h.1) (first_here p xs (ltb-true _ _ (h.0)))

no_some : (b : Bool) (n : ℕ) → cond b (Some n) None ≡ None → b ≡ false
no_some true n e = cc
no_some false n e = refl

pub no_place : (p : ℕ → Bool) (xs : List ℕ) → position p xs ≡ None → All (λ x. p x ≡ false) xs
no_place p xs e =
    let far : length xs ≤ position_or_len p xs = ltb-false _ _ (no_some _ _ e) in
    λ k d m. fails_before_first p xs k d (omega arith)
