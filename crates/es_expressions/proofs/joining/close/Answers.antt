use Rattle.std.proofs.Common.{refl, sym, ◌∙◌}
use Rattle.es_expressions.specs.declared.roles.Joint.TheVariants.{Close}
use Rattle.es_expressions.proofs.TakeLemmas.{close-taken, other-left, none-left, refuses-close}
use Rattle.es_expressions.proofs.joining.close.Goals as goal

pub returns-in_default-clause-joins : goal.returns-in_default-clause-joins
returns-in_default-clause-joins c = λ base. none-left Close c.args.nodes.now c.args.frames.now c.pop.new.self c.args.operand (λ _ _ _. refl) (c.in_default.ensures {u = tt}).0 (c.in_default.ensures {u = tt}).1 base c.args.token.now

pub returns-clause-joins : goal.returns-clause-joins
returns-clause-joins c = λ base. close-taken c.args.nodes.now c.completed.new.nodes c.args.frames.now c.pop.new.self c.in-Some.frame c.args.operand c.in_ok-whole.whole c.args.token.now (c.in-Some.ensures {u = tt}) c.in_ok-whole.ensures.grows c.in_ok-whole.ensures.completed base

pub returns-then-not-is_closing-clause-joins : goal.returns-then-not-is_closing-clause-joins
returns-then-not-is_closing-clause-joins c = λ base. other-left Close c.args.nodes.now c.args.frames.now c.pop.new.self c.push.new.self c.in-Some.frame c.args.operand (refuses-close c.in-Some.frame (sym c.is_closing.ensures ∙ c.if-not-is_closing.true)) (c.in-Some.ensures {u = tt}) c.in_ok-push.ensures base c.args.token.now
