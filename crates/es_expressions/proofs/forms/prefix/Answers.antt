use Rattle.std.proofs.Common.{refl}
use Rattle.es_expressions.proofs.FormLemmas.{if-both, if-one, signed-stands, stepped-stands}
use Rattle.es_expressions.proofs.StandLemmas.{grows-trans, grows-one}
use Rattle.es_expressions.proofs.forms.prefix.Goals as goal

pub returns-clause-grows : goal.returns-clause-grows
returns-clause-grows c =
    if-one c.operand_over.result c.operand_over.ensures.pushed
    (λ o p. grows-trans c.args.nodes.now c.single.new.nodes c.operand_over.new.nodes c.in_ok-operand.ensures.grows (grows-one c.single.new.nodes c.operand_over.new.nodes _ p))

pub returns-clause-signed : goal.returns-clause-signed
returns-clause-signed c =
    if-both c.operand_over.result c.operand_over.ensures.is c.operand_over.ensures.pushed
    (λ o is pushed k e s y h. signed-stands c.single.new.nodes c.operand_over.new.nodes o _ 14 c.deeper.result c.args.symbol c.args.start c.in_ok-operand.operand e k is pushed refl refl c.deeper.ensures y s (c.in_ok-operand.ensures.single e h))

pub returns-clause-stepped : goal.returns-clause-stepped
returns-clause-stepped c =
    if-both c.operand_over.result c.operand_over.ensures.is c.operand_over.ensures.pushed
    (λ o is pushed k e s y h. stepped-stands c.single.new.nodes c.operand_over.new.nodes o _ 14 c.deeper.result c.args.symbol c.args.start c.in_ok-operand.operand e k is pushed refl refl c.deeper.ensures y s (c.in_ok-operand.ensures.single e h))
