use Rattle.es_reader.specs.ExpressionFacts.{ExpressionFacts}
use Rattle.es_reader.proofs.DecidedExpressions.{BeginFacts}
use Rattle.es_reader.proofs.DecidedPrograms.{decided}
use Rattle.es_reader.proofs.laws.law_of_reading.Goals as goal

pub returns : goal.returns
returns c =
    let ends = c.law_of_ends.ensures in
    let facts : ExpressionFacts = record { one = c.law_of_expressions.ensures; goes_on = ends.goes_on; first = ends.first; some = ends.some } in
    let begins : BeginFacts = record { begins = c.law_of_beginnings.ensures.begins; whole = c.law_of_beginnings.ensures.whole } in
    λ tokens. decided facts begins tokens
