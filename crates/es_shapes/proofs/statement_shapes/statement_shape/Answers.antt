use Rattle.std.proofs.Common.{ap, sym}
use Rattle.es_shapes.specs.devices.Parts.{listed}
use Rattle.es_shapes.specs.devices.Shapes.{stated}
use Rattle.es_shapes.specs.Syntax.Statement.{Return}
use Rattle.es_shapes.proofs.StatementLemmas.{value-is}
use Rattle.es_shapes.proofs.statement_shapes.statement_shape.Goals as goal

pub returns-in-Return : goal.returns-in-Return
unfolding listed stated
returns-in-Return c =
    rw c.in-Return.is
    (sym (ap Return (value-is c.args.programs.now c.args.code c.part.result c.part.ensures.part)))
