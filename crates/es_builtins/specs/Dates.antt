-- What `Date` makes of its arguments, and what the methods of a Date give (this project's own profile of
-- ECMA-262 second edition, 15.9: there is no time zone, and months and seconds carry).
use Rattle.std.specs.Prelude.{ℕ, ℤ, pos, List, Option, Some, None, codes, option_map, slice_get}
use Rattle.std.specs.Option.{option_map_or}
use Rattle.es_values.specs.declared.numbers.Num.{Num}
use Rattle.es_values.specs.declared.numbers.Num.TheVariants.{NotANumber, Whole}
use Rattle.es_values.specs.declared.values.Value.{Value}
use Rattle.es_values.specs.Conversions.{number_of}
use Rattle.es_values.specs.Objects.{ObjectState}
use Rattle.es_date.specs.declared.moments.DateFields.{DateFields}
use Rattle.es_date.specs.declared.moments.Moment.{Moment}
use Rattle.es_date.specs.Dates.{date_with}
use Rattle.es_date.specs.DayNumbers.{weekday_of}
use Rattle.es_date.specs.Moments.{fields_of}
use Rattle.es_builtins.specs.declared.methods.DatePart.{DatePart}
use Rattle.es_builtins.specs.declared.methods.DatePart.TheVariants as the

-- ---- arguments

-- the number of the argument at a place, and this one where it is absent
abbrev pub number_or : List ObjectState → List Value → ℕ → ℤ → Num
number_or heap arguments place absent =
    option_map_or (number_of heap) (slice_get arguments place) (Whole absent)

-- the fields of six numbers, and none where one of them is NaN
abbrev pub fields_of_numbers : Num → Num → Num → Num → Num → Num → Option DateFields
fields_of_numbers (Whole year) (Whole month) (Whole day) (Whole hour) (Whole minute) (Whole second) =
    Some (record {
      year = year;
      month = month;
      day = day;
      hour = hour;
      minute = minute;
      second = second;
    })
fields_of_numbers _ _ _ _ _ _ = None

-- the year, the month, the day, the hour, the minute and the second; an absent day is 1, and every
-- other absent one 0
abbrev pub date_fields : List ObjectState → List Value → Option DateFields
date_fields heap arguments =
    fields_of_numbers
    (number_or heap arguments 0 (pos 0)) (number_or heap arguments 1 (pos 0))
    (number_or heap arguments 2 (pos 1)) (number_or heap arguments 3 (pos 0))
    (number_or heap arguments 4 (pos 0)) (number_or heap arguments 5 (pos 0))

-- ---- parts

-- the method that gives a part
abbrev pub part_name : DatePart → List ℕ
part_name the.FullYear = codes "getFullYear"
part_name the.Month = codes "getMonth"
part_name the.Date = codes "getDate"
part_name the.Day = codes "getDay"
part_name the.Hours = codes "getHours"
part_name the.Minutes = codes "getMinutes"
part_name the.Seconds = codes "getSeconds"

-- a part of the fields of a moment; the day of the week counts from Sunday, which is 0
abbrev pub part_of : DatePart → Moment → DateFields → ℤ
part_of the.FullYear moment fields = fields.year
part_of the.Month moment fields = fields.month
part_of the.Date moment fields = fields.day
part_of the.Day moment fields = pos (weekday_of moment.day)
part_of the.Hours moment fields = fields.hour
part_of the.Minutes moment fields = fields.minute
part_of the.Seconds moment fields = fields.second

-- the fields of a moment, where the calendar has its day
abbrev pub fields_of_moment : Moment → Option DateFields
fields_of_moment moment =
    option_map (λ date. fields_of date moment.second) (date_with moment.day)

-- the part of a Date, and NaN where it isn't good
abbrev pub part_given : DatePart → Option Moment → Num
part_given part None = NotANumber
part_given part (Some moment) =
    option_map_or (λ fields. Whole (part_of part moment fields)) (fields_of_moment moment) NotANumber
