-- The present moment, and moments reckoned with (`addDate` and `subDate` are named after ARIB STD-B24 volume 2; what they
-- count and refuse is this project's own).
use Rattle.std.specs.Prelude.{ℕ, ◌-◌, ℤ, Option, Some, None}
use Rattle.es_date.specs.declared.moments.Moment.{Moment}
use Rattle.es_date.specs.declared.units.DateUnit.{DateUnit}
use Rattle.es_date.specs.Moments.{moment_after, moment_later, moment_with, units_between}

-- The moment that it is now: a day and a second were told at one moment of the clock, which has gone on since then. Only
-- whole seconds of that count.
abbrev pub present_moment : ℕ → ℤ × ℕ × ℕ → Option Moment
present_moment now (day, second, clock) = moment_after (moment_with day second) (now - clock)

-- so many units later; none where one of the three is missing, or there is no such moment
abbrev pub later_moment : Option Moment → Option ℤ → Option DateUnit → Option Moment
later_moment (Some moment) (Some count) (Some unit) = moment_later moment count unit
later_moment None count unit = None
later_moment (Some moment) None unit = None
later_moment (Some moment) (Some count) None = None

-- the units from the second moment to the first; none where one of the three is missing, or there is no such number
abbrev pub units_since : Option Moment → Option Moment → Option DateUnit → Option ℤ
units_since (Some later) (Some earlier) (Some unit) = units_between earlier later unit
units_since None earlier unit = None
units_since (Some later) None unit = None
units_since (Some later) (Some earlier) None = None
