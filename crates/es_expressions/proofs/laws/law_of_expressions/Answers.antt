use Rattle.es_expressions.specs.Beginnings.{least}
use Rattle.es_expressions.proofs.EndLemmas.{least-bound}
use Rattle.es_expressions.proofs.WholeLemmas.{one-phrase}
use Rattle.es_expressions.proofs.laws.law_of_expressions.Goals as goal

pub returns : goal.returns
returns c = λ extent tokens one other h g. one-phrase (least extent) (least-bound extent) tokens one other h g
