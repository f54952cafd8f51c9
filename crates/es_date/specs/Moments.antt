-- Moments, which are seconds of days, as Date objects of scripts keep them (this project's own, after ECMA-262 second
-- edition, 15.9, and the dates of the browser object of ARIB STD-B24 volume 2).
use Rattle.std.specs.Prelude.{ℕ, suc, ◌-◌, ◌/◌, ◌%◌, ◌<◌, Bool, ◌&&◌, if◌then◌else◌, ℤ, pos, neg_ℤ, ◌+ℤ◌, ◌-ℤ◌, ◌*ℤ◌, unsigned_abs, int_le, int_lt, int_div, List, [], ◌∷◌, find, Option, Some, None}
use Rattle.std.specs.Int.{int_div_euclid, int_rem_euclid}
use Rattle.std.specs.Ordering.{int_eq}
use Rattle.es_date.specs.declared.dates.Civil.{Civil}
use Rattle.es_date.specs.declared.moments.DateFields.{DateFields}
use Rattle.es_date.specs.declared.moments.Moment.{Moment}
use Rattle.es_date.specs.declared.units.DateUnit.{DateUnit}
use Rattle.es_date.specs.declared.units.DateUnit.TheVariants.{Second, Minute, Hour, Day, Week}
use Rattle.es_date.specs.DayNumbers.{IsDayNumber, day_number}

-- the seconds of a day
abbrev pub day_length : ℕ
day_length = 86400

-- the day is of 1900 to 2399, and has this second
pub record IsMoment (moment : Moment) : Type 0 where
  pub day : IsDayNumber moment.day
  pub second : moment.second < day_length

abbrev pub is_between : ℤ → ℤ → ℤ → Bool
is_between low high number = int_le low number && int_le number high

abbrev pub is_day_number : ℤ → Bool
is_day_number day = is_between (neg_ℤ (pos 25567)) (pos 157053) day

abbrev pub is_year : ℤ → Bool
is_year year = is_between (pos 1900) (pos 2399) year

abbrev pub moment_with : ℤ → ℕ → Moment
moment_with day second = record { day = day; second = second }

-- the moment of a day and a second, where there is one
abbrev pub moment_of : ℤ → ℤ → Option Moment
moment_of day second =
    if is_day_number day && (int_le (pos 0) second && int_lt second (pos day_length))
    then Some (moment_with day (unsigned_abs second)) else None

-- ---- as seconds from the beginning of 1970-01-01 on

abbrev pub seconds_of : Moment → ℤ
seconds_of moment = moment.day *ℤ pos day_length +ℤ pos moment.second

-- the moment so many seconds after that beginning, where its day is of 1900 to 2399
unfoldable pub moment_at : ℤ → Option Moment
moment_at seconds =
    if is_day_number (int_div_euclid seconds (pos day_length))
    then Some (moment_with (int_div_euclid seconds (pos day_length))
    (unsigned_abs (int_rem_euclid seconds (pos day_length))))
    else None

-- ---- from fields, each of which may be any number

-- the fields of a time without minutes
abbrev pub fields_with : ℤ → ℤ → ℤ → ℤ → ℤ → DateFields
fields_with year month day hour second = record
    { year = year; month = month; day = day; hour = hour; minute = pos 0; second = second }

-- months count from 0, and carry into the year: the year and the month of it, which is 1 to 12
abbrev pub carried_year : DateFields → ℤ
carried_year fields = fields.year +ℤ int_div_euclid fields.month (pos 12)

abbrev pub carried_month : DateFields → ℕ
carried_month fields = suc (unsigned_abs (int_rem_euclid fields.month (pos 12)))

-- to the first of that month are added the days but one, the hours, the minutes and the seconds
abbrev pub seconds_of_fields : DateFields → ℤ
seconds_of_fields fields =
    day_number (unsigned_abs (carried_year fields)) (carried_month fields) fields.day
    *ℤ pos day_length
    +ℤ (fields.hour *ℤ pos 3600 +ℤ fields.minute *ℤ pos 60 +ℤ fields.second)

-- none where the year, after the months were carried, isn't 1900 to 2399, or where the day isn't one of these years
abbrev pub moment_of_fields : DateFields → Option Moment
moment_of_fields fields =
    if is_year (carried_year fields) then moment_at (seconds_of_fields fields) else None

-- the hour of a day's second, its minute of the hour, and its second of the minute
abbrev pub hour_of : ℕ → ℕ
hour_of second = second / 3600

abbrev pub minute_of : ℕ → ℕ
minute_of second = second / 60 % 60

abbrev pub second_in_minute : ℕ → ℕ
second_in_minute second = second % 60

-- the fields of a date and a second of its day
abbrev pub fields_of : Civil → ℕ → DateFields
fields_of date second = record {
  year = date.year;
  month = pos (date.month - 1);
  day = pos date.day;
  hour = pos (hour_of second);
  minute = pos (minute_of second);
  second = pos (second_in_minute second);
}

-- ---- units

-- the numbers by which scripts name them
abbrev pub unit_number : DateUnit → ℤ
unit_number Second = pos 1
unit_number Minute = pos 2
unit_number Hour = pos 3
unit_number Day = pos 4
unit_number Week = pos 5

abbrev pub all_units : List DateUnit
all_units = Second ∷ Minute ∷ Hour ∷ Day ∷ Week ∷ []

abbrev pub unit_of : ℤ → Option DateUnit
unit_of number = find (λ unit. int_eq number (unit_number unit)) all_units

-- how many seconds they are
abbrev pub unit_length : DateUnit → ℤ
unit_length Second = pos 1
unit_length Minute = pos 60
unit_length Hour = pos 3600
unit_length Day = pos day_length
unit_length Week = pos 604800

-- the moment so many units later
abbrev pub moment_later : Moment → ℤ → DateUnit → Option Moment
moment_later moment count unit = moment_at (seconds_of moment +ℤ count *ℤ unit_length unit)

-- the moment after so many milliseconds, of which only whole seconds count
abbrev pub moment_after : Moment → ℕ → Option Moment
moment_after moment milliseconds = moment_at (seconds_of moment +ℤ pos (milliseconds / 1000))

-- the units from one moment to another, cut towards zero
abbrev pub units_cut : Moment → Moment → DateUnit → ℤ
units_cut from to unit = int_div (seconds_of to -ℤ seconds_of from) (unit_length unit)

-- the same, where it is a number of 32 bits with a sign
abbrev pub units_between : Moment → Moment → DateUnit → Option ℤ
units_between from to unit =
    if is_between (neg_ℤ (pos 2147483648)) (pos 2147483647) (units_cut from to unit)
    then Some (units_cut from to unit) else None
