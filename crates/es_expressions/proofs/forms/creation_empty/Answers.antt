use Rattle.std.proofs.Common.{refl}
use Rattle.es_expressions.proofs.FormLemmas.{if-both, creation-empty-stands}
use Rattle.es_expressions.proofs.forms.creation_empty.Goals as goal

pub returns-clause-creation : goal.returns-clause-creation
returns-clause-creation c =
    if-both c.operand_over.result c.operand_over.ensures.is c.operand_over.ensures.pushed
    (λ o is pushed n p f s h. creation-empty-stands c.args.nodes.now c.operand_over.new.nodes o _ 18 c.deeper.result c.args.start c.args.callee n p c.args.close.now f is pushed refl refl c.deeper.ensures s h)
