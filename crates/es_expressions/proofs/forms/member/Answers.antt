use Rattle.std.proofs.Common.{refl, arith}
use Rattle.es_expressions.proofs.FormLemmas.{if-both, member-stands}
use Rattle.es_expressions.proofs.forms.member.Goals as goal

pub returns-clause-member : goal.returns-clause-member
returns-clause-member c =
    if-both c.operand_over.result c.operand_over.ensures.is c.operand_over.ensures.pushed
    (λ o is pushed b d h. member-stands c.args.nodes.now c.operand_over.new.nodes o _ c.min.result c.args.base.height c.in_ok-share.field-0 c.args.base b d c.args.name.now is pushed refl (omega (arith, c.min.ensures)) refl c.in_ok-share.ensures h)
