use Rattle.es_expressions.proofs.JoinLemmas.{assign-left, assign-taken, taken-if}
use Rattle.es_expressions.proofs.joining.assign.Goals as goal

pub returns-then-not-operand-clause-joins : goal.returns-then-not-operand-clause-joins
returns-then-not-operand-clause-joins c = λ base. assign-left c.args.operand c.args.nodes.now c.args.frames.now c.args.token.now c.if-not-operand.true base

pub returns-clause-joins : goal.returns-clause-joins
returns-clause-joins c = taken-if _ c.open.result _ c.open.ensures.place c.open.ensures.opened (λ o base. assign-taken c.args.operand c.args.nodes.now c.single.new.nodes c.args.frames.now c.open.new.frames c.in_ok-target.target c.args.token.now c.in_ok-share.field-0 c.if-not-operand.false c.in_ok-share.ensures c.in_ok-target.ensures.grows c.in_ok-target.ensures.single o base)
