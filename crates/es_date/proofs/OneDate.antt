-- Among the dates of the years 1900 to 2399 one has a given day number.
use Rattle.std.proofs.Common.{◌≡◌, ℕ, ◌≤◌, refl, sym, ◌∙◌, arith, rules, ℤ, pos, ◌≤ℤ◌, unsigned_abs}
use Rattle.std.proofs.lemmas.Int.{by_lt_z}
use Rattle.jiff_core.proofs.SignedLemmas.{signed_arith, one_part}
use Rattle.jiff_core.proofs.MarchLemmas.{day_count-early, day_count-late}
use Rattle.jiff_core.proofs.CalendarLemmas.{day_count-lt_year, days_from_civil-day_count}
use Rattle.jiff_core.proofs.DateLemmas.{civil, epoch_day_injective}
use Rattle.jiff_core.specs.declared.civil.date.Date.{Date as JiffDate}
use Rattle.jiff_core.specs.Calendar.{day_count, days_from_civil, days_in_month}
use Rattle.jiff_core.specs.Date.{epoch_day}
use Rattle.es_date.specs.declared.dates.Civil.{Civil}
use Rattle.es_date.specs.DayNumbers.{IsYear, IsDayNumber, day_number, month_length}
use Rattle.es_date.specs.Dates.{IsDate, IsDateOf, number_of}
use Rattle.es_date.proofs.DayLemmas.{month_length-jiff, day_number-jiff}

-- the first day of these years and the last, as `jiff` counts them
first_day : day_count (pos 1900) 1 1 ≡ 4_346_386
first_day = day_count-early (pos 1900) 11899 1 1 refl (omega arith) (omega arith) (omega arith)

last_day : day_count (pos 2399) 12 31 ≡ 4_529_006
last_day = day_count-late (pos 2399) 12399 12 31 refl (omega arith) (omega arith) (omega arith)

-- a date whose number is among theirs is of these years
pub year_of_number : (d : JiffDate) → IsDayNumber (epoch_day d) → IsYear d.year
year_of_number d h =
    let count = days_from_civil-day_count d.year d.month d.day in
    let low : pos 1900 ≤ℤ d.year = by_lt_z d.year (pos 1900)
    (λ lt. absurd (omega (arith, signed_arith, first_day, count, h, day_count-lt_year d.year d.month d.day (pos 1900) 1 1 (civil d) (omega arith) lt)))
    (λ le. le) in
    let high : d.year ≤ℤ pos 2399 = by_lt_z (pos 2399) d.year
    (λ lt. absurd (omega (arith, signed_arith, last_day, count, h, day_count-lt_year (pos 2399) 12 31 d.year d.month d.day (search rules) d.day_in.0 lt)))
    (λ le. le) in
    (low, high)

-- the year as a number that isn't negative
year_is : (y : ℤ) → IsYear y → y ≡ pos (unsigned_abs y)
year_is y h = omega (arith, signed_arith, one_part y)

days_are : (y : ℤ) (m : ℕ) → IsYear y → days_in_month y m ≡ month_length (unsigned_abs y) m
days_are y m h = rw (year_is y h) (month_length-jiff (unsigned_abs y) m)

-- the date that `jiff` has for it
jiff_date : (c : Civil) → IsDate c → JiffDate
jiff_date c h = record { year = c.year; month = c.month; day = c.day; year_in = omega (arith, signed_arith, h.year); month_in = h.month; day_in = rw (days_are c.year c.month h.year) h.day }

number-jiff : (y : ℤ) (m d : ℕ) → IsYear y → 1 ≤ m → 1 ≤ d → day_number (unsigned_abs y) m (pos d) ≡ days_from_civil y m d
number-jiff y m d h low first = rw (year_is y h) (day_number-jiff (unsigned_abs y) m d low first)

abbrev civil_with : ℤ → ℕ → ℕ → Civil
civil_with year month day = record { year = year; month = month; day = day }

pub same_civil : (a b : Civil) → a.year ≡ b.year → a.month ≡ b.month → a.day ≡ b.day → a ≡ b
same_civil a b year month day =
    let same : civil_with a.year a.month a.day ≡ civil_with b.year b.month b.day = rw (year, month, day) in
    same

-- two dates of these years with one number are one
pub one_number : (a b : Civil) → IsDate a → IsDate b → number_of a ≡ number_of b → a ≡ b
unfolding jiff_date
one_number a b ia ib same =
    let na = number-jiff a.year a.month a.day ia.year ia.month.0 ia.day.0 in
    let nb = number-jiff b.year b.month b.day ib.year ib.month.0 ib.day.0 in
    let parts = epoch_day_injective (jiff_date a ia) (jiff_date b ib) (sym na ∙ same ∙ nb) in
    same_civil a b parts.0 parts.1 parts.2

is_date : (d : JiffDate) → IsDayNumber (epoch_day d) → IsDate (civil_with d.year d.month d.day)
is_date d h =
    let year = year_of_number d h in
    record { year = year; month = d.month_in; day = rw (sym (days_are d.year d.month year)) d.day_in }

-- the date that `jiff` has for a number is the one with that number
pub date_of_number : (d : JiffDate) → IsDayNumber (epoch_day d) → IsDateOf (epoch_day d) (civil_with d.year d.month d.day)
date_of_number d h =
    let date = is_date d h in
    let number = number-jiff d.year d.month d.day date.year d.month_in.0 d.day_in.0 in
    record { date = date; number = number; only = λ other is same. one_number other (civil_with d.year d.month d.day) is date (same ∙ sym number) }

-- a date of these years has one of their numbers
day_before : day_count (pos 1899) 12 31 ≡ 4_346_385
day_before = day_count-late (pos 1899) 11899 12 31 refl (omega arith) (omega arith) (omega arith)

day_after : day_count (pos 2400) 1 1 ≡ 4_529_007
day_after = day_count-early (pos 2400) 12399 1 1 refl (omega arith) (omega arith) (omega arith)

pub number_in_range : (c : Civil) → IsDate c → IsDayNumber (number_of c)
unfolding jiff_date
number_in_range c h =
    let d = jiff_date c h in
    let number = number-jiff c.year c.month c.day h.year h.month.0 h.day.0 in
    let count = days_from_civil-day_count c.year c.month c.day in
    let low = day_count-lt_year (pos 1899) 12 31 c.year c.month c.day (search rules) h.day.0 (omega (arith, signed_arith, h.year)) in
    let high = day_count-lt_year c.year c.month c.day (pos 2400) 1 1 (civil d) (search rules) (omega (arith, signed_arith, h.year)) in
    (omega (arith, signed_arith, number, count, low, day_before), omega (arith, signed_arith, number, count, high, day_after))
