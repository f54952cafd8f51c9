-- Date objects (this project's own profile of ECMA-262 second edition, 15.9): objects with two properties that tell a
-- moment.
use Rattle.std.specs.Prelude.{ℕ, Bool, ◌&&◌, ℤ, pos, List, [], ◌∷◌, Option, Some, None, option_and_then, codes}
use Rattle.es_values.specs.declared.numbers.Num.TheVariants.{NotANumber, Whole}
use Rattle.es_values.specs.declared.values.Value.{Value}
use Rattle.es_values.specs.declared.values.Value.TheVariants.{Number, Object}
use Rattle.es_values.specs.Heaps.{has_property, object_at, object_of, value_of}
use Rattle.es_values.specs.Objects.{ObjectState}
use Rattle.es_date.specs.declared.moments.Moment.{Moment}
use Rattle.es_date.specs.Moments.{moment_of as moment_with_parts}

-- ---- the properties

-- the number of the day, counted from 1970-01-01
abbrev pub day_name : List ℕ
day_name = codes "$day"

-- the second of that day, counted from 0
abbrev pub second_name : List ℕ
second_name = codes "$second"

-- ---- from moments to Dates

abbrev pub day_value : Option Moment → Value
day_value None = Number NotANumber
day_value (Some moment) = Number (Whole moment.day)

abbrev pub second_value : Option Moment → Value
second_value None = Number NotANumber
second_value (Some moment) = Number (Whole (pos moment.second))

-- the Date of a moment, and one of NaN where there is none
abbrev pub date_object : Option Moment → ObjectState
date_object moment =
    object_of ((day_name, day_value moment) ∷ (second_name, second_value moment) ∷ [])

-- ---- from Dates to moments

-- an object has both properties, whoever gave it them
abbrev pub is_date : ObjectState → Bool
is_date object = has_property object day_name && has_property object second_name

-- the whole number that a value is
abbrev pub whole_in : Value → Option ℤ
whole_in (Number (Whole number)) = Some number
whole_in other = None

-- the moment of two values: both are whole numbers, of a day of 1900 to 2399 and of a second of it
abbrev pub moment_told : Value → Value → Option Moment
moment_told day second =
    option_and_then (λ day. option_and_then (moment_with_parts day) (whole_in second)) (whole_in day)

-- the moment of an object that is a good Date
abbrev pub moment_in : ObjectState → Option Moment
moment_in object = moment_told (value_of object day_name) (value_of object second_name)

-- the same of a value
abbrev pub moment_of : List ObjectState → Value → Option Moment
moment_of heap (Object object) = moment_in (object_at heap object)
moment_of heap other = None
