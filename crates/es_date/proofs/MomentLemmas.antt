-- Moments as seconds from the beginning of 1970-01-01 on.
use Rattle.std.proofs.Common.{◌≡◌, ◌<◌, Bool, true, false, refl, arith, ℤ, pos, neg_ℤ, ◌≤ℤ◌, ◌+ℤ◌, ◌*ℤ◌, Some, None, unsigned_abs, ◌^◌, to_z, of_z, w32, w64, FitsSigned}
use Rattle.std.specs.Prelude.{int_le, int_div, Result, Ok, Err, OkIff, if◌then◌else◌}
use Rattle.std.specs.Result.{result_ok}
use Rattle.std.specs.Int.{int_div_euclid, int_rem_euclid}
use Rattle.std.proofs.lemmas.Bool.{and_parts}
use Rattle.jiff_core.proofs.SignedLemmas.{int_rem_euclid-parts, signed_arith, signed_casts}
use Rattle.es_date.specs.DayNumbers.{IsYear}
use Rattle.es_date.specs.declared.units.DateUnit.{DateUnit}
use Rattle.es_date.specs.declared.units.DateUnit.TheVariants.{Second, Minute, Hour, Day, Week}
use Rattle.es_date.specs.declared.moments.DateFields.{DateFields}
use Rattle.es_date.specs.Moments.{carried_year, moment_of_fields, seconds_of_fields, day_length, unit_length, is_between, is_day_number, is_year, moment_at, moment_with}

le_z-true : (a b : ℤ) → a ≤ℤ b → int_le a b ≡ true
le_z-true a b h = by (int_le a b) refl
  where
    by : (test : Bool) → int_le a b ≡ test → test ≡ true
    by true e = refl
    by false e = absurd (omega (arith, signed_arith, e))

pub between-parts : (low high z : ℤ) → is_between low high z ≡ true → (low ≤ℤ z) × (z ≤ℤ high)
between-parts low high z e =
    let parts = and_parts (int_le low z) (int_le z high) e in
    (omega (arith, signed_arith, parts.0), omega (arith, signed_arith, parts.1))

pub within-between : (low high z : ℤ) → low ≤ℤ z → z ≤ℤ high → is_between low high z ≡ true
within-between low high z from to =
    let a : int_le low z ≡ true = le_z-true low z from in
    let b : int_le z high ≡ true = le_z-true z high to in
    rw (a, b) refl

pub moment_at-some : (seconds : ℤ) → is_day_number (int_div_euclid seconds (pos day_length)) ≡ true
    → moment_at seconds ≡ Some (moment_with (int_div_euclid seconds (pos day_length)) (unsigned_abs (int_rem_euclid seconds (pos day_length))))
unfolding moment_at
moment_at-some seconds e = rw e refl

pub moment_at-none : (seconds : ℤ) → is_day_number (int_div_euclid seconds (pos day_length)) ≡ false → moment_at seconds ≡ None
unfolding moment_at
moment_at-none seconds e = rw e refl

pub second_of_day : (seconds : ℤ) → unsigned_abs (int_rem_euclid seconds (pos day_length)) < day_length
second_of_day seconds =
    let r = int_rem_euclid-parts seconds 86400 (omega arith) in
    omega (arith, signed_arith, r)

-- what is far from the ends of 64 bits is kept by them
pub small64 : (z : ℤ) → neg_ℤ (pos (2 ^ 62)) ≤ℤ z → z ≤ℤ pos (2 ^ 62) → to_z w64 (of_z w64 z) ≡ z
small64 z low high = omega (arith, signed_casts)

pub wide : (z : ℤ) → FitsSigned w32 z → to_z w64 (of_z w64 (to_z w32 (of_z w32 z))) ≡ z
wide z fits =
    let same : to_z w32 (of_z w32 z) ≡ z = omega (arith, signed_casts) in
    rw same (small64 z (omega (arith, signed_casts)) (omega (arith, signed_casts)))

pub wide_result : (z result : ℤ) → FitsSigned w32 z → result ≡ to_z w32 (of_z w32 z) → to_z w64 (of_z w64 result) ≡ z
wide_result z result fits e = rw e (wide z fits)

-- a number of 32 bits of any unit is small
pub product_is_small : (count : ℤ) (unit : DateUnit) → FitsSigned w32 count → (neg_ℤ (pos (2 ^ 60)) ≤ℤ (count *ℤ unit_length unit)) × ((count *ℤ unit_length unit) ≤ℤ pos (2 ^ 60))
product_is_small count Second fits = (omega (arith, signed_arith), omega (arith, signed_arith))
product_is_small count Minute fits = (omega (arith, signed_arith), omega (arith, signed_arith))
product_is_small count Hour fits = (omega (arith, signed_arith), omega (arith, signed_arith))
product_is_small count Day fits = (omega (arith, signed_arith), omega (arith, signed_arith))
product_is_small count Week fits = (omega (arith, signed_arith), omega (arith, signed_arith))

-- a quotient by the seconds of a unit is no larger
pub quotient_is_small : (z : ℤ) (unit : DateUnit) → neg_ℤ (pos (2 ^ 50)) ≤ℤ z → z ≤ℤ pos (2 ^ 50)
    → (neg_ℤ (pos (2 ^ 50)) ≤ℤ int_div z (unit_length unit)) × (int_div z (unit_length unit) ≤ℤ pos (2 ^ 50))
quotient_is_small z Second low high = (omega (arith, signed_arith), omega (arith, signed_arith))
quotient_is_small z Minute low high = (omega (arith, signed_arith), omega (arith, signed_arith))
quotient_is_small z Hour low high = (omega (arith, signed_arith), omega (arith, signed_arith))
quotient_is_small z Day low high = (omega (arith, signed_arith), omega (arith, signed_arith))
quotient_is_small z Week low high = (omega (arith, signed_arith), omega (arith, signed_arith))

-- what fits 32 bits is tried so
pub tried_32 : {E : Type 0} (z : ℤ) (tried : Result ℤ E) → OkIff tried (FitsSigned w32 z) z
    → result_ok tried ≡ (if is_between (neg_ℤ (pos 2147483648)) (pos 2147483647) z then Some z else None)
tried_32 z (Ok x) h =
    let good = within-between (neg_ℤ (pos 2147483648)) (pos 2147483647) z (omega (arith, signed_arith, h.0)) (omega (arith, signed_arith, h.0)) in
    rw (good, h.1) refl
tried_32 z (Err e) h = by (is_between (neg_ℤ (pos 2147483648)) (pos 2147483647) z) refl
  where
    by : (test : Bool) → is_between (neg_ℤ (pos 2147483648)) (pos 2147483647) z ≡ test → None ≡ (if test then Some z else None)
    by true good = let parts = between-parts (neg_ℤ (pos 2147483648)) (pos 2147483647) z good in absurd (h (omega (arith, signed_arith, parts)))
    by false bad = refl

pub moment_of_fields-none : (fields : DateFields) → is_year (carried_year fields) ≡ false → moment_of_fields fields ≡ None
moment_of_fields-none fields e = rw e refl

pub moment_of_fields-some : (fields : DateFields) → is_year (carried_year fields) ≡ true → moment_of_fields fields ≡ moment_at (seconds_of_fields fields)
moment_of_fields-some fields e = rw e refl

pub kept32 : (z : ℤ) → FitsSigned w32 z → to_z w32 (of_z w32 z) ≡ z
kept32 z fits = omega (arith, signed_casts)

-- the year that months carried into, as the code has it
pub year_from : (year month result : ℤ) → FitsSigned w32 year → FitsSigned w32 month
    → result ≡ to_z w32 (of_z w32 year) +ℤ int_div_euclid (to_z w32 (of_z w32 month)) (pos 12)
    → to_z w64 (of_z w64 result) ≡ year +ℤ int_div_euclid month (pos 12)
year_from year month result year_fits month_fits e =
    let sum = rw (kept32 year year_fits, kept32 month month_fits) at e in
    rw sum (small64 (year +ℤ int_div_euclid month (pos 12)) (omega (arith, signed_arith, year_fits, month_fits)) (omega (arith, signed_arith, year_fits, month_fits)))

pub narrow_year : (year wide : ℤ) → IsYear year → wide ≡ year → to_z w32 (of_z w32 wide) ≡ year
narrow_year year wide good e = rw e (omega (arith, signed_casts, good))
