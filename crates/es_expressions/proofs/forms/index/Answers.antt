use Rattle.std.proofs.Common.{refl, arith}
use Rattle.es_expressions.proofs.FormLemmas.{if-both, if-one, index-stands}
use Rattle.es_expressions.proofs.StandLemmas.{single-grown, grows-trans, grows-one}
use Rattle.es_expressions.proofs.forms.index.Goals as goal

pub returns-clause-grows : goal.returns-clause-grows
returns-clause-grows c =
    if-one c.operand_over.result c.operand_over.ensures.pushed
    (λ o p. grows-trans c.args.nodes.now c.single.new.nodes c.operand_over.new.nodes c.in_ok-key.ensures.grows (grows-one c.single.new.nodes c.operand_over.new.nodes _ p))

pub returns-clause-index : goal.returns-clause-index
returns-clause-index c =
    if-both c.operand_over.result c.operand_over.ensures.is c.operand_over.ensures.pushed
    (λ o is pushed b e p h k. index-stands c.single.new.nodes c.operand_over.new.nodes o _ c.min.result c.max.result c.args.base c.in_ok-key.key b e p c.args.close.now is pushed refl (omega (arith, c.min.ensures)) (omega (arith, c.max.ensures, c.deeper.ensures)) (single-grown c.args.nodes.now c.single.new.nodes c.args.base b c.in_ok-key.ensures.grows h) (c.in_ok-key.ensures.single e k))
