use Rattle.std.proofs.Common.{refl}
use Rattle.es_expressions.proofs.FormLemmas.{if-both, if-one, postfix-stands}
use Rattle.es_expressions.proofs.StandLemmas.{grows-trans, grows-one}
use Rattle.es_expressions.proofs.forms.postfix.Goals as goal

pub returns-clause-grows : goal.returns-clause-grows
returns-clause-grows c =
    if-one c.operand_over.result c.operand_over.ensures.pushed
    (λ o p. grows-trans c.args.nodes.now c.single.new.nodes c.operand_over.new.nodes c.in_ok-target.ensures.grows (grows-one c.single.new.nodes c.operand_over.new.nodes _ p))

pub returns-clause-postfix : goal.returns-clause-postfix
returns-clause-postfix c =
    if-both c.operand_over.result c.operand_over.ensures.is c.operand_over.ensures.pushed
    (λ o is pushed e h. postfix-stands c.single.new.nodes c.operand_over.new.nodes o _ 15 c.deeper.result c.in_ok-share.field-0 c.in_ok-target.target e c.args.operator.now is pushed refl refl c.deeper.ensures c.in_ok-share.ensures (c.in_ok-target.ensures.single e h))
