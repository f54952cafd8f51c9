-- Lists that are cut where a test passes first.
use Rattle.std.proofs.Common.{◌≡◌, ℕ, ◌+◌, ◌<◌, ◌≤◌, Bool, true, false, cond, List, [], ◌∷◌, length, take, drop, position, Some, None, ltb, refl, subst, ltb-true, ltb-false, arith}
use Rattle.std.specs.List.{position_or_len, slice_split}
use Rattle.std.proofs.lemmas.List.Splits.{slice_split_first, slice_split_none}
use Rattle.std.proofs.lemmas.List.Sums.{fails_before_first}
use Rattle.std.proofs.lemmas.Option.{cond_some}

no_some : (b : Bool) (n : ℕ) → cond b (Some n) None ≡ None → b ≡ false
no_some true n e = cc
no_some false n e = refl

pub uncut : (p : ℕ → Bool) (xs : List ℕ) → position p xs ≡ None → slice_split p xs ≡ xs ∷ []
uncut p xs e =
    let far : length xs ≤ position_or_len p xs = ltb-false _ _ (no_some _ _ e) in
    slice_split_none p xs (λ k d m. fails_before_first p xs k d (omega arith))

pub record Cut (p : ℕ → Bool) (xs : List ℕ) (place : ℕ) : Type 0 where
  pub within : place < length xs
  pub cut : slice_split p xs ≡ take place xs ∷ slice_split p (drop (place + 1) xs)

pub cut_first : (p : ℕ → Bool) (xs : List ℕ) (place : ℕ) → position p xs ≡ Some place → Cut p xs place
cut_first p xs place e =
    let h : (ltb (position_or_len p xs) (length xs) ≡ true) × (position_or_len p xs ≡ place) = cond_some _ _ _ e in
    let here : position_or_len p xs < length xs = ltb-true _ _ (h.0) in
    subst (Cut p xs) (h.1) (record { within = here; cut = slice_split_first p xs 0 here })
