use Rattle.es_expressions.specs.Beginnings.{least}
use Rattle.es_expressions.proofs.EndLemmas.{goes-on, first-front, some-token}
use Rattle.es_expressions.proofs.laws.law_of_ends.Goals as goal

pub returns-clause-goes_on : goal.returns-clause-goes_on
returns-clause-goes_on c = λ extent tokens e t w g. goes-on extent tokens e t w g

pub returns-clause-first : goal.returns-clause-first
returns-clause-first c = λ extent t more g. first-front (least extent) t more g

pub returns-clause-some : goal.returns-clause-some
returns-clause-some c = λ extent e w. some-token (least extent) e w
