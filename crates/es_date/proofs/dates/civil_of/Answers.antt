-- The date that `jiff` finds is the one with this number.
use Rattle.std.proofs.Common.{◌≡◌, pos, ◌+ℤ◌, unsigned_abs, arith, sym, ℤ, None, to_z, of_z, w16, w8, w32, w64}
use Rattle.jiff.proofs.SpanFacts.{date_add-days, can_add-days}
use Rattle.jiff_core.proofs.SignedLemmas.{signed_arith, signed_casts}
use Rattle.jiff_core.proofs.CalendarLemmas.{days_in_month_bounds}
use Rattle.jiff_core.specs.Calendar.{IsEpochDay}
use Rattle.jiff_core.specs.Date.{epoch_day}
use Rattle.es_date.specs.DayNumbers.{IsDayNumber}
use Rattle.es_date.proofs.DayLemmas.{epoch-jiff}
use Rattle.es_date.proofs.DateSteps.{epoch_day-parts}
use Rattle.es_date.proofs.FoundDate.{date_found, nothing_found}
use Rattle.es_date.proofs.OneDate.{date_of_number, number_in_range}
use Rattle.es_date.specs.Dates.{date_with}
use Rattle.es_date.proofs.dates.civil_of.Goals as goal
use Rattle.es_date.proofs.dates.civil_of.Goals.{then-day-lt-FIRST_DAY-via-then-day-lt-FIRST_DAY, then-day-lt-FIRST_DAY-via-else-day-lt-FIRST_DAY+then-day-gt-LAST_DAY}

pub returns-in-Ok-clause-date : goal.returns-in-Ok-clause-date
returns-in-Ok-clause-date c =
    let days : to_z w64 (of_z w64 (to_z w32 (of_z w32 c.args.day))) ≡ c.args.day = omega (arith, signed_casts) in
    let added = date_add-days c.date.result c.args.day c.days.result (rw days at c.days.ensures) in
    let begin = epoch_day-parts c.date.result (pos 1970) 1 1 c.date.ensures.0 (omega (arith, signed_arith)) (omega (arith, signed_arith)) in
    let number : epoch_day c.in-Ok.found ≡ c.args.day = omega (arith, signed_arith, c.in-Ok.ensures.value, added, begin, epoch-jiff) in
    let year : to_z w32 (of_z w32 (to_z w16 (of_z w16 c.year.result))) ≡ c.in-Ok.found.year = omega (arith, signed_casts, c.in-Ok.found.year_in) in
    let month : unsigned_abs (to_z w8 (of_z w8 c.month.result)) ≡ c.in-Ok.found.month = omega (arith, signed_casts, c.in-Ok.found.month_in) in
    let day : unsigned_abs (to_z w8 (of_z w8 c.day.result)) ≡ c.in-Ok.found.day = omega (arith, signed_casts, c.in-Ok.found.day_in, days_in_month_bounds c.in-Ok.found.year c.in-Ok.found.month) in
    let range : IsDayNumber c.args.day = (omega (arith, signed_arith), omega (arith, signed_arith)) in
    rw (year, month, day) (rw number at (date_of_number c.in-Ok.found (rw number range)))

pub returns-in-Err-clause-in_range : goal.returns-in-Err-clause-in_range
returns-in-Err-clause-in_range c =
    let days : to_z w64 (of_z w64 (to_z w32 (of_z w32 c.args.day))) ≡ c.args.day = omega (arith, signed_casts) in
    let can = can_add-days c.date.result c.args.day c.days.result (rw days at c.days.ensures) in
    let begin = epoch_day-parts c.date.result (pos 1970) 1 1 c.date.ensures.0 (omega (arith, signed_arith)) (omega (arith, signed_arith)) in
    let number : epoch_day c.date.result +ℤ c.args.day ≡ c.args.day = omega (arith, signed_arith, begin, epoch-jiff) in
    let day : IsEpochDay c.args.day = (omega (arith, signed_arith), omega (arith, signed_arith)) in
    (λ never. (omega (arith, signed_arith), omega (arith, signed_arith)), λ in_range. c.in-Err.ensures.succeeds.1 (can.1 (rw number day)))

pub returns-in-Ok-clause-found : goal.returns-in-Ok-clause-found
returns-in-Ok-clause-found c =
    let is = returns-in-Ok-clause-date c in
    sym (date_found c.args.day _ is.date is.number)

outside : (day : ℤ) → (IsDayNumber day → ⊥) → date_with day ≡ None
outside day out = nothing_found day (λ date is number. out (rw number at (number_in_range date is)))

pub returns-in-Err-clause-found : goal.returns-in-Err-clause-found
returns-in-Err-clause-found c = sym (outside c.args.day (λ in_range. grind (arith, (returns-in-Err-clause-in_range c).1 in_range)))

pub returns-then-day-lt-FIRST_DAY-clause-found : goal.returns-then-day-lt-FIRST_DAY-clause-found
returns-then-day-lt-FIRST_DAY-clause-found c =
    let wide : to_z w64 (of_z w64 (to_z w32 (of_z w32 c.args.day))) ≡ c.args.day = omega (arith, signed_casts) in
    sym (outside c.args.day (λ is. elim c.then-day-lt-FIRST_DAY.branch [
      | then-day-lt-FIRST_DAY-via-then-day-lt-FIRST_DAY w ↦ omega (arith, signed_casts, wide, is, w.if-day-lt-FIRST_DAY.true)
      | then-day-lt-FIRST_DAY-via-else-day-lt-FIRST_DAY+then-day-gt-LAST_DAY w ↦ omega (arith, signed_casts, wide, is, w.if-day-gt-LAST_DAY.true)
    ]))
