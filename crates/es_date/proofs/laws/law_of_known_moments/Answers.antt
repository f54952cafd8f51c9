-- The sums compute.
use Rattle.std.proofs.Common.{refl}
use Rattle.es_date.specs.DayNumbers.{first_of_month, days_of_years, days_of_months}
use Rattle.es_date.specs.Moments.{moment_at}
use Rattle.es_date.proofs.laws.law_of_known_moments.Goals as goal

pub returns-clause-carried : goal.returns-clause-carried
unfolding first_of_month days_of_years days_of_months moment_at
returns-clause-carried c = refl

pub returns-clause-month_before : goal.returns-clause-month_before
unfolding first_of_month days_of_years days_of_months moment_at
returns-clause-month_before c = refl

pub returns-clause-second_before : goal.returns-clause-second_before
unfolding first_of_month days_of_years days_of_months moment_at
returns-clause-second_before c = refl

pub returns-clause-year_first : goal.returns-clause-year_first
unfolding first_of_month days_of_years days_of_months moment_at
returns-clause-year_first c = refl

pub returns-clause-day_last : goal.returns-clause-day_last
unfolding first_of_month days_of_years days_of_months moment_at
returns-clause-day_last c = refl

pub returns-clause-past_the_end : goal.returns-clause-past_the_end
unfolding first_of_month days_of_years days_of_months moment_at
returns-clause-past_the_end c = refl

pub returns-clause-cut : goal.returns-clause-cut
unfolding first_of_month days_of_years days_of_months moment_at
returns-clause-cut c = refl

pub returns-clause-midnight : goal.returns-clause-midnight
unfolding first_of_month days_of_years days_of_months moment_at
returns-clause-midnight c = refl

pub returns-clause-week : goal.returns-clause-week
unfolding first_of_month days_of_years days_of_months moment_at
returns-clause-week c = refl
