use Rattle.es_shapes.proofs.MeaningLemmas.{means-is, program-means}
use Rattle.es_shapes.proofs.told_laws.law_of_sources.Goals as goal

pub returns-clause-expressions : goal.returns-clause-expressions
returns-clause-expressions c = means-is

pub returns-clause-programs : goal.returns-clause-programs
returns-clause-programs c = program-means
