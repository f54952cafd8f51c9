-- A second of a day is what a division leaves.
use Rattle.es_date.proofs.MomentLaws.{counted_back, fields_again, months_carried, moment_counted}
use Rattle.es_date.proofs.laws.law_of_moments.Goals as goal

pub returns-clause-one : goal.returns-clause-one
returns-clause-one c = λ seconds moment. (moment_counted seconds moment, λ is. counted_back seconds moment is.0 is.1)

pub returns-clause-months : goal.returns-clause-months
returns-clause-months c = months_carried

pub returns-clause-fields : goal.returns-clause-fields
returns-clause-fields c = fields_again
