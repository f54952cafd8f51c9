use Rattle.std.proofs.Common.{arith}
use Rattle.es_expressions.proofs.JoinLemmas.{question-left, question-taken, taken-if}
use Rattle.es_expressions.proofs.joining.question.Goals as goal

pub returns-then-operand-lt4-clause-joins : goal.returns-then-operand-lt4-clause-joins
returns-then-operand-lt4-clause-joins c = λ base t. question-left c.args.operand c.args.nodes.now c.args.frames.now (omega arith) base t

pub returns-clause-joins : goal.returns-clause-joins
returns-clause-joins c = taken-if _ c.open.result _ c.open.ensures.place c.open.ensures.opened (λ o base t. question-taken c.args.operand c.args.nodes.now c.single.new.nodes c.args.frames.now c.open.new.frames c.in_ok-test.test (omega arith) c.in_ok-test.ensures.grows c.in_ok-test.ensures.single o base t)
