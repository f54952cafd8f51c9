-- Day numbers of the Gregorian calendar, as sums of the lengths of years and months (this project's own; ECMA-262 second
-- edition, 15.9.1, counts days from the same one).
use Rattle.std.specs.Prelude.{ℕ, ◌-◌, ◌%◌, Bool, not, ◌&&◌, ◌||◌, ◌==◌, if◌then◌else◌, ℤ, pos, neg_ℤ, ◌+ℤ◌, ◌-ℤ◌, ◌≤ℤ◌, unsigned_abs}
use Rattle.std.specs.List.{sum_by, range_with_len}
use Rattle.std.specs.Int.{int_rem_euclid}

-- a year is a leap year when 4 divides it and 100 doesn't, or 400 does
abbrev pub is_leap_year : ℕ → Bool
is_leap_year year = (year % 4 == 0 && not (year % 100 == 0)) || (year % 400 == 0)

-- the days of a year
abbrev pub year_length : ℕ → ℕ
year_length year = if is_leap_year year then 366 else 365

-- the days of a month of a year, where January is 1: April, June, September and November have 30
abbrev pub month_length : ℕ → ℕ → ℕ
month_length year month =
    if month == 2 then (if is_leap_year year then 29 else 28)
    else (if (month == 4) || (month == 6) || (month == 9) || (month == 11) then 30 else 31)

-- the days of the years from one up to another, which isn't counted; none where the other isn't later
unfoldable pub days_of_years : ℕ → ℕ → ℕ
days_of_years from to = sum_by year_length (range_with_len from (to - from))

-- the days of the months of a year that come before a month
unfoldable pub days_of_months : ℕ → ℕ → ℕ
days_of_months year month = sum_by (month_length year) (range_with_len 1 (month - 1))

-- the day number of the first of a month: the days of the years from 1970 up to its year, less those of the years from
-- its year up to 1970, and the days of the months before it
unfoldable pub first_of_month : ℕ → ℕ → ℤ
first_of_month year month =
    pos (days_of_years 1970 year) -ℤ pos (days_of_years year 1970)
    +ℤ pos (days_of_months year month)

-- the day number of a day that is counted from the first of a month, which is day 1; it may lie outside the month
abbrev pub day_number : ℕ → ℕ → ℤ → ℤ
day_number year month day = first_of_month year month +ℤ (day -ℤ pos 1)

-- the day of the week, from Sunday, which is 0: the day number plus 4, modulo 7
abbrev pub weekday_of : ℤ → ℕ
weekday_of day = unsigned_abs (int_rem_euclid (day +ℤ pos 4) (pos 7))

-- the years 1900 to 2399
abbrev pub IsYear : ℤ → Type 0
IsYear year = (pos 1900 ≤ℤ year) × (year ≤ℤ pos 2399)

-- the day numbers of those years
abbrev pub IsDayNumber : ℤ → Type 0
IsDayNumber day = (neg_ℤ (pos 25567) ≤ℤ day) × (day ≤ℤ pos 157053)
