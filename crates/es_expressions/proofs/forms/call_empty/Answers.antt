use Rattle.std.proofs.Common.{refl}
use Rattle.es_expressions.proofs.FormLemmas.{if-both, call-empty-stands}
use Rattle.es_expressions.proofs.forms.call_empty.Goals as goal

pub returns-clause-call : goal.returns-clause-call
returns-clause-call c =
    if-both c.operand_over.result c.operand_over.ensures.is c.operand_over.ensures.pushed
    (λ o is pushed f p h. call-empty-stands c.args.nodes.now c.operand_over.new.nodes o _ 16 c.args.callee.height c.args.callee f p c.args.close.now is pushed refl refl refl h)
