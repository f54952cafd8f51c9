use Rattle.es_expressions.specs.Beginnings.{least}
use Rattle.es_expressions.proofs.EndLemmas.{least-bound}
use Rattle.es_expressions.proofs.BeginLemmas.{begins-or-not, whole-or-not}
use Rattle.es_expressions.proofs.laws.law_of_beginnings.Goals as goal

pub returns-clause-begins : goal.returns-clause-begins
returns-clause-begins c = λ extent tokens. begins-or-not (least extent) (least-bound extent) tokens

pub returns-clause-whole : goal.returns-clause-whole
returns-clause-whole c = λ extent tokens. whole-or-not (least extent) (least-bound extent) tokens
