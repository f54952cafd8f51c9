use Rattle.es_shapes.proofs.StatementLemmas.{variable-past, variable-there}
use Rattle.es_shapes.proofs.statement_shapes.variable.Goals as goal

pub returns-in-Some : goal.returns-in-Some
returns-in-Some c =
    rw (variable-there c.args.programs.now c.args.code c.in-Some.declarator c.in-Some.ensures.part)
    c.declared_name.ensures

pub returns-in-None : goal.returns-in-None
returns-in-None c =
    rw (variable-past c.args.programs.now c.args.code c.in-None.ensures.part) c.of_codes.ensures
