use Rattle.std.proofs.Common.{arith}
use Rattle.es_expressions.proofs.JoinLemmas.{operator-left, operator-taken, taken-if}
use Rattle.es_expressions.proofs.joining.operator.Goals as goal

pub returns-then-operand-strength-clause-joins : goal.returns-then-operand-strength-clause-joins
returns-then-operand-strength-clause-joins c = λ base. operator-left c.args.operand c.args.nodes.now c.args.frames.now c.args.strength c.args.token.now (omega arith) base

pub returns-clause-joins : goal.returns-clause-joins
returns-clause-joins c = taken-if _ c.open.result _ c.open.ensures.place c.open.ensures.opened (λ o base. operator-taken c.args.operand c.args.nodes.now c.single.new.nodes c.args.frames.now c.open.new.frames c.in_ok-left.left c.args.strength c.args.token.now c.in_ok-share.field-0 (omega arith) c.in_ok-share.ensures c.in_ok-left.ensures.grows c.in_ok-left.ensures.single o base)
