use Rattle.std.proofs.Common.{Option, Some, None, subst}
use Rattle.es_expressions.specs.Standings.{held}
use Rattle.es_expressions.specs.declared.operands.Operand.{Operand}
use Rattle.es_expressions.proofs.StandLemmas.{grows-refl}
use Rattle.es_expressions.proofs.ClosingLemmas.{Closing, starts-settling, keeps-settling, settles, fails}
use Rattle.es_expressions.proofs.closing.settle.Goals as goal

pub forms-init : goal.forms-init
forms-init c = starts-settling (held c.args.nodes.now c.args.frames.now) c.args.operand c.args.reach (grows-refl c.args.nodes.now)

pub forms-preserved : goal.forms-preserved
forms-preserved c =
    let made : Closing c.forms.nodes c.closed.new.nodes c.in-Some.frame c.forms.operand (Some c.in-Some-2.whole) = subst (λ (o : Option Operand). Closing c.forms.nodes c.closed.new.nodes c.in-Some.frame c.forms.operand o) c.in-Some-2.is (c.in_ok-whole.ensures {u = tt}).closed in
    keeps-settling (held c.args.nodes.now c.args.frames.now) (held c.forms.nodes c.forms.frames) (held c.closed.new.nodes c.pop_before.new.self) c.args.operand c.forms.operand c.in-Some-2.whole c.args.reach c.in-Some.frame c.forms.invariant (c.in-Some.ensures {u = tt}).0 (c.in-Some.ensures {u = tt}).1 (c.in_ok-whole.ensures {u = tt}).grows made

pub returns-in-None-clause-settled : goal.returns-in-None-clause-settled
returns-in-None-clause-settled c =
    let made : Closing c.forms.nodes c.closed.new.nodes c.in-Some.frame c.forms.operand None = subst (λ (o : Option Operand). Closing c.forms.nodes c.closed.new.nodes c.in-Some.frame c.forms.operand o) c.in-None.is (c.in_ok-whole.ensures {u = tt}).closed in
    fails (held c.args.nodes.now c.args.frames.now) (held c.forms.nodes c.forms.frames) (held c.closed.new.nodes c.pop_before.new.self) c.args.operand c.forms.operand c.args.reach c.in-Some.frame c.forms.invariant (c.in-Some.ensures {u = tt}).0 (c.in-Some.ensures {u = tt}).1 (c.in_ok-whole.ensures {u = tt}).grows made

pub returns-clause-settled : goal.returns-clause-settled
returns-clause-settled c = settles (held c.args.nodes.now c.args.frames.now) (held c.forms.nodes c.forms.frames) c.args.operand c.forms.operand c.args.reach c.pop_before.new.self c.forms.invariant (c.in_default.ensures {u = tt}).0 (c.in_default.ensures {u = tt}).1
