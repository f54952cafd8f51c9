use Rattle.std.proofs.Common.{refl, arith}
use Rattle.es_expressions.proofs.FormLemmas.{if-both, call-with-stands}
use Rattle.es_expressions.proofs.forms.call_with.Goals as goal

pub returns-clause-call : goal.returns-clause-call
returns-clause-call c =
    if-both c.operand_of.result c.operand_of.ensures.is c.operand_of.ensures.pushed
    (λ o is pushed f e p h a. call-with-stands c.args.nodes.now c.operand_of.new.nodes o c.in_ok-children.children.items 16 c.max.result c.args.callee c.args.arguments f e p c.args.close.now is pushed (c.in_ok-children.ensures f e h a) refl (omega (arith, c.max.ensures, c.deeper.ensures)) h a)
