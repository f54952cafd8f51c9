-- A text parted at a code.
use Rattle.std.proofs.Common.{◌≡◌, ℕ, suc, ◌+◌, ◌-◌, ◌<◌, ◌≤◌, Bool, true, false, cond, List, [], ◌∷◌, length, take, drop, Some, None, refl, sym, ◌∙◌, ap, arith}
use Rattle.std.proofs.lemmas.Bool.Decides.{nat_tests}
use Rattle.std.proofs.lemmas.List.{length-drop}
use Rattle.std.proofs.Math.Seq.{take-length}
use Rattle.std.proofs.lemmas.List.Splits.{slice_split_none, slice_split_first}
use Rattle.std.proofs.lemmas.List.Sums.{fails_before_first}
use Rattle.std.specs.Prelude.{All, nat_lt, not, ◌||◌, position}
use Rattle.std.specs.List.{before_first, after_first, list_any, position_or_len, slice_split}
use Rattle.style_reader.specs.devices.Views.{IsParted, pieces_from}

nat_lt-step : (m n : ℕ) → nat_lt (1 + m) (suc n) ≡ nat_lt m n
nat_lt-step m n = grind (arith, nat_tests)

-- a code passes the test exactly where the place of the first one is in the text
pub list_any-is : (p : ℕ → Bool) (text : List ℕ) → list_any p text ≡ nat_lt (position_or_len p text) (length text)
list_any-is p [] = refl
list_any-is p (x ∷ xs) = by (p x) (list_any-is p xs ∙ sym (nat_lt-step (position_or_len p xs) (length xs)))
  where
    by : (b : Bool) → list_any p xs ≡ nat_lt (1 + position_or_len p xs) (suc (length xs)) → (b || list_any p xs) ≡ nat_lt (cond (not b) (1 + position_or_len p xs) 0) (suc (length xs))
    by true e = grind (arith, nat_tests)
    by false e = e

-- the part of a list from a place on
pub rest_whole : (n : ℕ) (xs : List ℕ) → take (length xs - n) (drop n xs) ≡ drop n xs
rest_whole n xs = rw (← length-drop n xs) (take-length (drop n xs))

-- a code that passes is found
pub position-some : (p : ℕ → Bool) (text : List ℕ) (k : ℕ) → Some k ≡ position p text → (list_any p text ≡ true) × (k ≡ position_or_len p text)
position-some p text k e = rw (list_any-is p text) (by (nat_lt (position_or_len p text) (length text)) e)
  where
    by : (b : Bool) → Some k ≡ cond b (Some (position_or_len p text)) None → (b ≡ true) × (k ≡ position_or_len p text)
    by true e = (refl, cc e)
    by false e = absurd (cc e)

pub position-none : (p : ℕ → Bool) (text : List ℕ) → None ≡ position p text → list_any p text ≡ false
position-none p text e = rw (list_any-is p text) (by (nat_lt (position_or_len p text) (length text)) e)
  where
    by : (b : Bool) → None ≡ cond b (Some (position_or_len p text)) None → b ≡ false
    by true e = absurd (cc e)
    by false e = refl

pub IsParted-found : (p : ℕ → Bool) (text : List ℕ) (k : ℕ) → Some k ≡ position p text → IsParted p text (take k text) (take (length text - (k + 1)) (drop (k + 1) text))
IsParted-found p text k e =
    let found = position-some p text k e in
    record {
      has_one = found.0;
      before_is = ap (λ (n : ℕ). take n text) found.1;
      behind_is = rest_whole (k + 1) text ∙ ap (λ (n : ℕ). drop (n + 1) text) found.1;
    }

-- the pieces of a text are the one before the first code that passes, and those behind it
none_before : (p : ℕ → Bool) (text : List ℕ) → length text ≤ position_or_len p text → All (λ code. p code ≡ false) text
none_before p text h = λ k d below. fails_before_first p text k d (omega arith)

pub slice_split-none : (p : ℕ → Bool) (text : List ℕ) → list_any p text ≡ false → slice_split p text ≡ text ∷ []
slice_split-none p text e =
    let same = list_any-is p text in
    let past : length text ≤ position_or_len p text = grind (arith, nat_tests) in
    slice_split_none p text (none_before p text past)

pub slice_split-some : (p : ℕ → Bool) (text : List ℕ) → list_any p text ≡ true → slice_split p text ≡ before_first p text ∷ slice_split p (after_first p text)
slice_split-some p text e =
    let same = list_any-is p text in
    let within : position_or_len p text < length text = grind (arith, nat_tests) in
    slice_split_first p text 0 within

-- the first piece, and those behind it
pub pieces_from-some : (p : ℕ → Bool) (text before behind : List ℕ) → IsParted p text before behind → slice_split p text ≡ pieces_from p before (Some behind)
pieces_from-some p text before behind parted = rw (parted.before_is, parted.behind_is) (slice_split-some p text parted.has_one)
