-- Moments and their seconds name each other, and the fields of a moment make it again.
use Rattle.std.proofs.Common.{◌≡◌, ℕ, ◌-◌, ◌/◌, ◌%◌, ◌<◌, Bool, true, false, refl, sym, ◌∙◌, ap, arith, ℤ, pos, neg_ℤ, ◌+ℤ◌, ◌*ℤ◌, Some, None, unsigned_abs}
use Rattle.std.specs.Int.{IsInRange, int_div_euclid, int_rem_euclid}
use Rattle.std.proofs.lemmas.Option.{same_Some}
use Rattle.jiff_core.proofs.SignedLemmas.{int_div_euclid-parts, int_rem_euclid-parts, signed_arith}
use Rattle.es_date.specs.declared.dates.Civil.{Civil}
use Rattle.es_date.specs.declared.moments.DateFields.{DateFields}
use Rattle.es_date.specs.declared.moments.Moment.{Moment}
use Rattle.es_date.specs.Dates.{IsDate, number_of}
use Rattle.es_date.specs.Moments.{IsMoment, carried_month, carried_year, fields_of, is_day_number, is_year, moment_at, moment_of_fields, moment_with, seconds_of, seconds_of_fields}
use Rattle.es_date.proofs.MomentLemmas.{between-parts, moment_at-none, moment_at-some, moment_of_fields-some, within-between}

-- the quotient and what it leaves
parts : (seconds : ℤ) → (int_div_euclid seconds (pos 86400) *ℤ pos 86400 +ℤ pos (unsigned_abs (int_rem_euclid seconds (pos 86400))) ≡ seconds) × (unsigned_abs (int_rem_euclid seconds (pos 86400)) < 86400)
parts seconds =
    let q = int_div_euclid-parts seconds 86400 (omega arith) in
    let r = int_rem_euclid-parts seconds 86400 (omega arith) in
    (omega (arith, signed_arith, q, r), omega (arith, signed_arith, q, r))

pub moment_counted : (seconds : ℤ) (moment : Moment) → moment_at seconds ≡ Some moment → IsMoment moment × (seconds_of moment ≡ seconds)
moment_counted seconds moment e = by (is_day_number (int_div_euclid seconds (pos 86400))) refl
  where
    by : (test : Bool) → is_day_number (int_div_euclid seconds (pos 86400)) ≡ test → IsMoment moment × (seconds_of moment ≡ seconds)
    by true good =
        let is : moment_with (int_div_euclid seconds (pos 86400)) (unsigned_abs (int_rem_euclid seconds (pos 86400))) ≡ moment = same_Some _ moment (sym (moment_at-some seconds good) ∙ e) in
        let all = parts seconds in
        rw (sym is) (record { day = between-parts (neg_ℤ (pos 25567)) (pos 157053) (int_div_euclid seconds (pos 86400)) good; second = all.1 }, all.0)
    by false bad = let never : None ≡ Some moment = sym (moment_at-none seconds bad) ∙ e in absurd cc

pub counted_back : (seconds : ℤ) (moment : Moment) → IsMoment moment → seconds_of moment ≡ seconds → moment_at seconds ≡ Some moment
counted_back seconds moment is e =
    let all = parts seconds in
    let small = is.second in
    let day : int_div_euclid seconds (pos 86400) ≡ moment.day = omega (arith, signed_arith, all, e, small) in
    let second : unsigned_abs (int_rem_euclid seconds (pos 86400)) ≡ moment.second = omega (arith, signed_arith, all, e, small) in
    let good : is_day_number (int_div_euclid seconds (pos 86400)) ≡ true = rw day (within-between (neg_ℤ (pos 25567)) (pos 157053) moment.day is.day.0 is.day.1) in
    rw (day, second) at (moment_at-some seconds good)

pub months_carried : (fields : DateFields) → (carried_year fields *ℤ pos 12 +ℤ pos (carried_month fields) ≡ fields.year *ℤ pos 12 +ℤ fields.month +ℤ pos 1) × IsInRange 1 12 (carried_month fields)
months_carried fields =
    let q = int_div_euclid-parts fields.month 12 (omega arith) in
    let r = int_rem_euclid-parts fields.month 12 (omega arith) in
    (omega (arith, signed_arith, q, r), (omega arith, omega (arith, signed_arith, q, r)))

-- the fields of a date make its year and month
year_again : (date : Civil) (second : ℕ) → IsDate date → carried_year (fields_of date second) ≡ date.year
year_again date second is =
    let none : (date.month - 1) / 12 ≡ 0 = omega (arith, is.month.0, is.month.1) in
    rw none (omega (arith, signed_arith))

month_again : (date : Civil) (second : ℕ) → IsDate date → carried_month (fields_of date second) ≡ date.month
month_again date second is = omega (arith, is.month.0, is.month.1)

pub fields_again : (date : Civil) (moment : Moment) → IsDate date → IsMoment moment → number_of date ≡ moment.day → moment_of_fields (fields_of date moment.second) ≡ Some moment
fields_again date moment is good number =
    let year = year_again date moment.second is in
    let month = month_again date moment.second is in
    let tested : is_year (carried_year (fields_of date moment.second)) ≡ true = rw year (within-between (pos 1900) (pos 2399) date.year is.year.0 is.year.1) in
    let time : pos (moment.second / 3600) *ℤ pos 3600 +ℤ pos (moment.second / 60 % 60) *ℤ pos 60 +ℤ pos (moment.second % 60) ≡ pos moment.second = omega (arith, signed_arith) in
    let seconds : seconds_of_fields (fields_of date moment.second) ≡ seconds_of moment = rw (year, month, number, time) refl in
    moment_of_fields-some (fields_of date moment.second) tested ∙ ap moment_at seconds ∙ counted_back (seconds_of moment) moment good refl
