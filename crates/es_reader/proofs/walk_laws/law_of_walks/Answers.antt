use Rattle.es_reader.proofs.WalkLemmas.{walks, walks-down}
use Rattle.es_reader.proofs.walk_laws.law_of_walks.Goals as goal

pub returns-clause-behind : goal.returns-clause-behind
returns-clause-behind c = λ items told start places number t s l. walks items told start places number t s l

pub returns-clause-down : goal.returns-clause-down
returns-clause-down c = λ items told start places number t s l. walks-down items told start places number t s l
