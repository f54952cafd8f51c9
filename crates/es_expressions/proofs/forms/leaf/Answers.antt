use Rattle.std.proofs.Common.{refl}
use Rattle.es_expressions.proofs.FormLemmas.{if-both, leaf-stands}
use Rattle.es_expressions.proofs.forms.leaf.Goals as goal

pub returns-clause-leaf : goal.returns-clause-leaf
returns-clause-leaf c =
    if-both c.operand_over.result c.operand_over.ensures.is c.operand_over.ensures.pushed
    (λ o is pushed. leaf-stands c.args.nodes.now c.operand_over.new.nodes o _ c.leaf_form.result c.in_ok-share.field-0 c.is_name.result c.args.token.now is pushed refl c.leaf_form.ensures c.in_ok-share.ensures c.is_name.ensures)
