use Rattle.es_shapes.specs.devices.Parts.{listed}
use Rattle.es_shapes.proofs.codes.listed_statement.Goals as goal

pub returns-in-Inner-clause-statement : goal.returns-in-Inner-clause-statement
unfolding listed
returns-in-Inner-clause-statement c = rw c.in-Inner.is c.part.ensures.part
