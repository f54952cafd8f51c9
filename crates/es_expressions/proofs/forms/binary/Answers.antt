use Rattle.std.proofs.Common.{refl, arith}
use Rattle.es_expressions.proofs.FormLemmas.{if-both, if-one, binary-stands}
use Rattle.es_expressions.proofs.StandLemmas.{single-grown, grows-trans, grows-one}
use Rattle.es_expressions.proofs.forms.binary.Goals as goal

pub returns-clause-grows : goal.returns-clause-grows
returns-clause-grows c =
    if-one c.operand_over.result c.operand_over.ensures.pushed
    (λ o p. grows-trans c.args.nodes.now c.single.new.nodes c.operand_over.new.nodes c.in_ok-right.ensures.grows (grows-one c.single.new.nodes c.operand_over.new.nodes _ p))

pub returns-clause-binary : goal.returns-clause-binary
returns-clause-binary c =
    if-both c.operand_over.result c.operand_over.ensures.is c.operand_over.ensures.pushed
    (λ o is pushed a b k y n h g. binary-stands c.single.new.nodes c.operand_over.new.nodes o _ c.args.strength c.max.result c.args.symbol c.args.left c.in_ok-right.right a b k is pushed refl n (omega (arith, c.max.ensures, c.deeper.ensures)) y (single-grown c.args.nodes.now c.single.new.nodes c.args.left a c.in_ok-right.ensures.grows h) (c.in_ok-right.ensures.single b g))
