use Rattle.std.proofs.Common.{refl, arith}
use Rattle.es_expressions.proofs.FormLemmas.{if-both, if-one, choice-stands}
use Rattle.es_expressions.proofs.StandLemmas.{single-grown, grows-trans, grows-one}
use Rattle.es_expressions.proofs.forms.choice.Goals as goal

pub returns-clause-grows : goal.returns-clause-grows
returns-clause-grows c =
    if-one c.operand_over.result c.operand_over.ensures.pushed
    (λ o p. grows-trans c.args.nodes.now c.single.new.nodes c.operand_over.new.nodes c.in_ok-other.ensures.grows (grows-one c.single.new.nodes c.operand_over.new.nodes _ p))

pub returns-clause-choice : goal.returns-clause-choice
returns-clause-choice c =
    if-both c.operand_over.result c.operand_over.ensures.is c.operand_over.ensures.pushed
    (λ o is pushed a b d q p h g k. choice-stands c.single.new.nodes c.operand_over.new.nodes o _ 2 c.deeper.result c.args.test c.args.chosen c.in_ok-other.other a b d q p is pushed refl refl (omega (arith, c.max.ensures, c.max-2.ensures, c.deeper.ensures)) (single-grown c.args.nodes.now c.single.new.nodes c.args.test a c.in_ok-other.ensures.grows h) (single-grown c.args.nodes.now c.single.new.nodes c.args.chosen b c.in_ok-other.ensures.grows g) (c.in_ok-other.ensures.single d k))
