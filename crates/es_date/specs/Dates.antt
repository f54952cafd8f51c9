-- The dates of the years 1900 to 2399, and the one that a day number names (this project's own, over the Gregorian
-- calendar).
use Rattle.std.specs.Prelude.{◌≡◌, ℕ, ℤ, pos, unsigned_abs, List, map, find, Option}
use Rattle.std.specs.List.{flat_map, range_with_len}
use Rattle.std.specs.Int.{IsInRange}
use Rattle.std.specs.Ordering.{int_eq}
use Rattle.es_date.specs.declared.dates.Civil.{Civil}
use Rattle.es_date.specs.DayNumbers.{IsYear, month_length, day_number}

-- the calendar has this date
pub record IsDate (date : Civil) : Type 0 where
  pub year : IsYear date.year
  pub month : IsInRange 1 12 date.month
  pub day : IsInRange 1 (month_length (unsigned_abs date.year) date.month) date.day

-- its day number
abbrev pub number_of : Civil → ℤ
number_of date = day_number (unsigned_abs date.year) date.month (pos date.day)

-- it is the one date with this number
pub record IsDateOf (day : ℤ) (found : Civil) : Type 0 where
  pub date : IsDate found
  pub number : number_of found ≡ day
  pub only : (other : Civil) → IsDate other → number_of other ≡ day → other ≡ found

-- ---- the one date, worked out; `law_of_dates` says that this is the same

-- a date of a year, which counts from 0 on
abbrev pub date_in : ℕ → ℕ → ℕ → Civil
date_in year month day = record { year = pos year; month = month; day = day }

-- the dates of a month, and of a year
abbrev pub dates_of_month : ℕ → ℕ → List Civil
dates_of_month year month = map (date_in year month) (range_with_len 1 (month_length year month))

abbrev pub dates_of_year : ℕ → List Civil
dates_of_year year = flat_map (dates_of_month year) (range_with_len 1 12)

-- the date among those of 1900 to 2399 that has this day number
unfoldable pub date_with : ℤ → Option Civil
date_with day =
    find (λ date. int_eq (number_of date) day) (flat_map dates_of_year (range_with_len 1900 500))
