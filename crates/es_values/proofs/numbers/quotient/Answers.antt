use Rattle.std.proofs.Common.{rules}
use Rattle.es_values.proofs.NumberLemmas.{int_wrap-quotient}
use Rattle.es_values.proofs.numbers.quotient.Goals as goal

pub returns : goal.returns
returns c = search (rules, int_wrap-quotient)
