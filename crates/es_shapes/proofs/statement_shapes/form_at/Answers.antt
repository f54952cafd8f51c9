use Rattle.std.proofs.Common.{sym}
use Rattle.es_shapes.proofs.ShapeLemmas.{form-found}
use Rattle.es_shapes.proofs.statement_shapes.form_at.Goals as goal

pub returns-in-Some : goal.returns-in-Some
returns-in-Some c =
    sym (form-found c.args.programs.now c.args.code c.in-Some.node.now (sym c.in-Some.ensures))
