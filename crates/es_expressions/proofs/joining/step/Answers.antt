use Rattle.es_expressions.proofs.JoinLemmas.{not-true, not-false, step-left, step-taken}
use Rattle.es_expressions.proofs.joining.step.Goals as goal

pub returns-then-not-operand-clause-joins : goal.returns-then-not-operand-clause-joins
returns-then-not-operand-clause-joins c = λ base xs. step-left c.args.operand c.args.nodes.now c.args.token.now (not-true c.args.operand.is_target c.if-not-operand.true) base xs

pub returns-clause-joins : goal.returns-clause-joins
returns-clause-joins c = λ base xs. step-taken c.args.operand c.in_ok-whole.whole c.args.nodes.now c.postfix.new.nodes c.args.token.now (not-false c.args.operand.is_target c.if-not-operand.false) c.in_ok-whole.ensures.grows c.in_ok-whole.ensures.postfix base xs
