use Rattle.es_shapes.specs.devices.Shapes.{declared}
use Rattle.es_shapes.proofs.StatementLemmas.{declarator-is}
use Rattle.es_shapes.proofs.shapes.declarator.Goals as goal

pub returns : goal.returns
unfolding declared
returns c =
    rw c.in_ok-declared_name.ensures
    (declarator-is c.args.programs.now c.args.code c.part.result c.part.ensures.part)
