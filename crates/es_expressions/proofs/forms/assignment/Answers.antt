use Rattle.std.proofs.Common.{refl, arith}
use Rattle.es_expressions.proofs.FormLemmas.{if-both, if-one, assign-stands}
use Rattle.es_expressions.proofs.StandLemmas.{single-grown, grows-trans, grows-one}
use Rattle.es_expressions.proofs.forms.assignment.Goals as goal

pub returns-clause-grows : goal.returns-clause-grows
returns-clause-grows c =
    if-one c.operand_over.result c.operand_over.ensures.pushed
    (λ o p. grows-trans c.args.nodes.now c.single.new.nodes c.operand_over.new.nodes c.in_ok-value.ensures.grows (grows-one c.single.new.nodes c.operand_over.new.nodes _ p))

pub returns-clause-assignment : goal.returns-clause-assignment
returns-clause-assignment c =
    if-both c.operand_over.result c.operand_over.ensures.is c.operand_over.ensures.pushed
    (λ o is pushed a b k y h g. assign-stands c.single.new.nodes c.operand_over.new.nodes o _ 2 c.deeper.result c.args.symbol c.args.target c.in_ok-value.value a b k is pushed refl refl (omega (arith, c.max.ensures, c.deeper.ensures)) y (single-grown c.args.nodes.now c.single.new.nodes c.args.target a c.in_ok-value.ensures.grows h) (c.in_ok-value.ensures.single b g))
