use Rattle.std.proofs.Common.{sym}
use Rattle.es_shapes.proofs.ShapeLemmas.{name-found, name-missing}
use Rattle.es_shapes.proofs.statement_shapes.declared_name.Goals as goal

pub returns-in-Some : goal.returns-in-Some
returns-in-Some c =
    rw (name-found c.args.programs.now c.args.code c.in-Some.node.now (sym c.in-Some.ensures))
    c.name_of.ensures

pub returns-in-None : goal.returns-in-None
returns-in-None c =
    rw (name-missing c.args.programs.now c.args.code (sym c.in-None.ensures)) c.of_codes.ensures
