use Rattle.std.proofs.Common.{refl, arith}
use Rattle.es_expressions.proofs.FormLemmas.{if-both, creation-with-stands}
use Rattle.es_expressions.proofs.forms.creation_with.Goals as goal

pub returns-clause-creation : goal.returns-clause-creation
returns-clause-creation c =
    if-both c.operand_of.result c.operand_of.ensures.is c.operand_of.ensures.pushed
    (λ o is pushed n p f e s h a. creation-with-stands c.args.nodes.now c.operand_of.new.nodes o c.in_ok-children.children.items 18 c.deeper.result c.args.start c.args.callee c.args.arguments n p c.args.close.now f e is pushed (c.in_ok-children.ensures f e h a) refl (omega (arith, c.max.ensures, c.deeper.ensures)) s h a)
