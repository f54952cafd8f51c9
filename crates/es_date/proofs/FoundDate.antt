-- The date with a day number, found among the dates of the years 1900 to 2399.
use Rattle.std.proofs.Common.{◌≡◌, ◌≢◌, ℕ, zero, suc, ◌+◌, ◌≤◌, ◌<◌, Bool, true, false, refl, sym, ◌∙◌, ap, arith, ℤ, pos, unsigned_abs, List, Some, None, ◌⊎◌, inl, inr}
use Rattle.std.specs.Prelude.{find, map}
use Rattle.std.specs.List.{flat_map, range_with_len}
use Rattle.std.specs.Ordering.{int_eq}
use Rattle.std.proofs.lemmas.Bool.{cases_eq}
use Rattle.std.proofs.lemmas.Bool.Decides.{Decides-int_eq}
use Rattle.std.proofs.lemmas.List.Folds.{find-append}
use Rattle.jiff_core.proofs.SignedLemmas.{one_part, signed_arith}
use Rattle.es_date.specs.declared.dates.Civil.{Civil}
use Rattle.es_date.specs.DayNumbers.{month_length}
use Rattle.es_date.specs.Dates.{IsDate, date_in, date_with, dates_of_month, dates_of_year, number_of}
use Rattle.es_date.proofs.OneDate.{one_number, same_civil}

module _ {X : Type 0} (p : X → Bool) where
  -- nothing is found where nothing passes
  none_among : (f : ℕ → List X) (from count : ℕ) → ((k : ℕ) → from ≤ k → k < from + count → find p (f k) ≡ None) → find p (flat_map f (range_with_len from count)) ≡ None
  none_among f from zero h = refl
  none_among f from (suc count) h =
      let here = h from (omega arith) (omega arith) in
      let later = none_among f (from + 1) count (λ k low high. h k (omega arith) (omega arith)) in
      find-append p (f from) (flat_map f (range_with_len (from + 1) count)) ∙ rw (here, later) refl

  none_mapped : (f : ℕ → X) (from count : ℕ) → ((k : ℕ) → from ≤ k → k < from + count → p (f k) ≡ false) → find p (map f (range_with_len from count)) ≡ None
  none_mapped f from zero h = refl
  none_mapped f from (suc count) h =
      let here = h from (omega arith) (omega arith) in
      let later = none_mapped f (from + 1) count (λ k low high. h k (omega arith) (omega arith)) in
      rw (here, later) refl

  -- what is found at one place alone is found
  some_among : (f : ℕ → List X) (x : X) (from count place : ℕ) → from ≤ place → place < from + count
      → ((k : ℕ) → from ≤ k → k < from + count → k ≢ place → find p (f k) ≡ None) → find p (f place) ≡ Some x → find p (flat_map f (range_with_len from count)) ≡ Some x
  some_among f x from zero place low high others here = absurd (omega arith)
  some_among f x from (suc count) place low high others here =
      by (cases_eq from place) (λ other. some_among f x (from + 1) count place (omega (arith, other)) (omega arith) (λ k a b ne. others k (omega arith) (omega arith) ne) here)
    where
      by : (from ≡ place) ⊎ (from ≢ place) → (from ≢ place → find p (flat_map f (range_with_len (from + 1) count)) ≡ Some x) → find p (flat_map f (range_with_len from (suc count))) ≡ Some x
      by (inl same) rest =
          let found : find p (f from) ≡ Some x = rw same here in
          find-append p (f from) (flat_map f (range_with_len (from + 1) count)) ∙ rw found refl
      by (inr other) rest =
          let none = others from (omega arith) (omega arith) other in
          find-append p (f from) (flat_map f (range_with_len (from + 1) count)) ∙ rw (none, rest other) refl

  some_mapped : (f : ℕ → X) (from count place : ℕ) → from ≤ place → place < from + count
      → ((k : ℕ) → from ≤ k → k < from + count → k ≢ place → p (f k) ≡ false) → p (f place) ≡ true → find p (map f (range_with_len from count)) ≡ Some (f place)
  some_mapped f from zero place low high others here = absurd (omega arith)
  some_mapped f from (suc count) place low high others here =
      by (cases_eq from place) (λ other. some_mapped f (from + 1) count place (omega (arith, other)) (omega arith) (λ k a b ne. others k (omega arith) (omega arith) ne) here)
    where
      by : (from ≡ place) ⊎ (from ≢ place) → (from ≢ place → find p (map f (range_with_len (from + 1) count)) ≡ Some (f place)) → find p (map f (range_with_len from (suc count))) ≡ Some (f place)
      by (inl same) rest =
          let found : p (f from) ≡ true = rw same here in
          rw found (ap (λ k. Some (f k)) same)
      by (inr other) rest =
          let none = others from (omega arith) (omega arith) other in
          rw (none, rest other) refl

pos_injective : {a b : ℕ} → pos a ≡ pos b → a ≡ b
pos_injective e = ap unsigned_abs e

-- the test of a number
differs : (a b : ℤ) → (a ≡ b → ⊥) → int_eq a b ≡ false
differs a b h = by (int_eq a b) refl
  where
    by : (test : Bool) → int_eq a b ≡ test → test ≡ false
    by true e = absurd (h ((Decides-int_eq a b).0 e))
    by false e = refl

-- a date that counts from 0 on
is_date_in : (year month day : ℕ) → 1900 ≤ year → year < 1900 + 500 → 1 ≤ month → month < 1 + 12 → 1 ≤ day → day < 1 + month_length year month → IsDate (date_in year month day)
is_date_in year month day a b c d e f =
    record { year = (omega (arith, signed_arith), omega (arith, signed_arith)); month = (c, omega arith); day = (e, omega arith) }

abbrev test : ℤ → Civil → Bool
test day date = int_eq (number_of date) day

module _ (day : ℤ) where
  -- without a date of this number nothing is found
  pub nothing_found : ((date : Civil) → IsDate date → number_of date ≡ day → ⊥) → date_with day ≡ None
  unfolding date_with
  nothing_found h =
      none_among (test day) dates_of_year 1900 500 (λ year a b.
      none_among (test day) (dates_of_month year) 1 12 (λ month c d.
      none_mapped (test day) (date_in year month) 1 (month_length year month) (λ of_month e f.
      differs (number_of (date_in year month of_month)) day (h (date_in year month of_month) (is_date_in year month of_month a b c d e f)))))

  -- the one date of this number is found, whose year is counted from 0
  in_parts : (year month of_month : ℕ) → 1900 ≤ year → year < 1900 + 500 → 1 ≤ month → month < 1 + 12 → 1 ≤ of_month → of_month < 1 + month_length year month
      → number_of (date_in year month of_month) ≡ day → date_with day ≡ Some (date_in year month of_month)
  unfolding date_with
  in_parts year month of_month a b c d e f number =
      let is = is_date_in year month of_month a b c d e f in
      let only : (other : Civil) → IsDate other → number_of other ≡ day → other ≡ date_in year month of_month =
      λ other is_other same. one_number other (date_in year month of_month) is_other is (same ∙ sym number) in
      some_among (test day) dates_of_year (date_in year month of_month) 1900 500 year a b
      (λ y a2 b2 ne. none_among (test day) (dates_of_month y) 1 12 (λ m c2 d2. none_mapped (test day) (date_in y m) 1 (month_length y m) (λ k e2 f2.
      differs (number_of (date_in y m k)) day (λ same. ne (pos_injective (ap (λ (x : Civil). x.year) (only (date_in y m k) (is_date_in y m k a2 b2 c2 d2 e2 f2) same)))))))
      (some_among (test day) (dates_of_month year) (date_in year month of_month) 1 12 month c d
      (λ m c2 d2 ne. none_mapped (test day) (date_in year m) 1 (month_length year m) (λ k e2 f2.
      differs (number_of (date_in year m k)) day (λ same. ne (ap (λ (x : Civil). x.month) (only (date_in year m k) (is_date_in year m k a b c2 d2 e2 f2) same)))))
      (some_mapped (test day) (date_in year month) 1 (month_length year month) of_month e f
      (λ k e2 f2 ne. differs (number_of (date_in year month k)) day (λ same. ne (ap (λ (x : Civil). x.day) (only (date_in year month k) (is_date_in year month k a b c d e2 f2) same))))
      ((Decides-int_eq (number_of (date_in year month of_month)) day).1 number)))

  pub date_found : (date : Civil) → IsDate date → number_of date ≡ day → date_with day ≡ Some date
  date_found date is number =
      let year : date.year ≡ pos (unsigned_abs date.year) = omega (arith, signed_arith, one_part date.year, is.year) in
      let same : date_in (unsigned_abs date.year) date.month date.day ≡ date = same_civil (date_in (unsigned_abs date.year) date.month date.day) date (sym year) refl refl in
      let found = in_parts (unsigned_abs date.year) date.month date.day (omega (arith, signed_arith, one_part date.year, is.year)) (omega (arith, signed_arith, one_part date.year, is.year))
      is.month.0 (omega (arith, is.month.1)) is.day.0 (omega (arith, is.day.1)) (ap number_of same ∙ number) in
      rw same at found
