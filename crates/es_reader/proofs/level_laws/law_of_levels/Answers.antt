use Rattle.es_reader.proofs.level_laws.law_of_levels.Goals as goal
use Rattle.es_reader.proofs.LevelLaws.{are-levels, all-are-levels}

pub returns-clause-statement : goal.returns-clause-statement
returns-clause-statement c = λ place statement rest h. are-levels place statement rest h

pub returns-clause-all : goal.returns-clause-all
returns-clause-all c = λ place statements rest h. all-are-levels place statements rest h
