use Rattle.std.proofs.Common.{refl}
use Rattle.es_expressions.proofs.FormLemmas.{if-both, if-one, creation-stands}
use Rattle.es_expressions.proofs.StandLemmas.{grows-trans, grows-one}
use Rattle.es_expressions.proofs.forms.creation.Goals as goal

pub returns-clause-grows : goal.returns-clause-grows
returns-clause-grows c =
    if-one c.operand_over.result c.operand_over.ensures.pushed
    (λ o p. grows-trans c.args.nodes.now c.single.new.nodes c.operand_over.new.nodes c.in_ok-callee.ensures.grows (grows-one c.single.new.nodes c.operand_over.new.nodes _ p))

pub returns-clause-creation : goal.returns-clause-creation
returns-clause-creation c =
    if-both c.operand_over.result c.operand_over.ensures.is c.operand_over.ensures.pushed
    (λ o is pushed n f s h. creation-stands c.single.new.nodes c.operand_over.new.nodes o _ 17 c.deeper.result c.args.start c.in_ok-callee.callee n f is pushed refl refl c.deeper.ensures s (c.in_ok-callee.ensures.single f h))
