-- A day number has at most one date, and `civil_of` finds it.
use Rattle.std.proofs.Common.{◌≡◌, ◌∙◌, Some, None, arith}
use Rattle.std.specs.Prelude.{Option, IfSome, IsSome, ℤ}
use Rattle.es_date.specs.declared.dates.Civil.{Civil}
use Rattle.es_date.specs.Dates.{IsDateOf, date_with}
use Rattle.es_date.proofs.FoundDate.{date_found}
use Rattle.es_date.proofs.MomentLemmas.{kept32}
use Rattle.es_date.proofs.OneDate.{number_in_range}
use Rattle.es_date.proofs.laws.law_of_dates.Goals as goal

there : (day : ℤ) (found : Option Civil) → IsSome found → IfSome found (IsDateOf day) → (date : Civil) × IsDateOf day date
there day (Some date) some is = (date, is)
there day None some is = absurd (grind (arith, some))

found-is : (day : ℤ) (found : Option Civil) (date : Civil) → IfSome found (IsDateOf day) → found ≡ date_with day → date_with day ≡ Some date → IsDateOf day date
found-is day found date is same e = rw (same ∙ e) at is

pub returns-clause-one : goal.returns-clause-one
returns-clause-one c =
    let day = kept32 c.args.day c.ranges.day in
    let some = rw day at c.civil_of-found.ensures.in_range in
    let is = rw day at c.civil_of-found.ensures.date in (
      λ in_range. there c.args.day c.civil_of-found.result (some.1 in_range) is,
      λ one. rw one.1.number at (number_in_range one.0 one.1.date),
    )

pub returns-clause-worked_out : goal.returns-clause-worked_out
returns-clause-worked_out c =
    let day = kept32 c.args.day c.ranges.day in
    let found = rw day at c.civil_of-found.ensures.date in
    let same = rw day at c.civil_of-found.ensures.found in
    λ date. (
      λ e. let is = found-is c.args.day c.civil_of-found.result date found same e in (is.date, is.number),
      λ is. date_found c.args.day date is.0 is.1,
    )
