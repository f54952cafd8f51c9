-- The sums compute.
use Rattle.std.proofs.Common.{refl}
use Rattle.es_date.specs.DayNumbers.{first_of_month, days_of_years, days_of_months}
use Rattle.es_date.proofs.laws.law_of_known_days.Goals as goal

pub returns-clause-first : goal.returns-clause-first
unfolding first_of_month days_of_years days_of_months
returns-clause-first c = refl

pub returns-clause-last : goal.returns-clause-last
unfolding first_of_month days_of_years days_of_months
returns-clause-last c = refl

pub returns-clause-before : goal.returns-clause-before
unfolding first_of_month days_of_years days_of_months
returns-clause-before c = refl

pub returns-clause-zero : goal.returns-clause-zero
unfolding first_of_month days_of_years days_of_months
returns-clause-zero c = refl

pub returns-clause-leap : goal.returns-clause-leap
unfolding first_of_month days_of_years days_of_months
returns-clause-leap c = refl

pub returns-clause-no_leap : goal.returns-clause-no_leap
unfolding first_of_month days_of_years days_of_months
returns-clause-no_leap c = refl
