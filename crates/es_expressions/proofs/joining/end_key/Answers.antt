use Rattle.std.proofs.Common.{refl, sym, ◌∙◌}
use Rattle.es_expressions.specs.declared.roles.Joint.TheVariants.{KeyEnd}
use Rattle.es_expressions.proofs.TakeLemmas.{key-taken, other-left, none-left, refuses-key}
use Rattle.es_expressions.proofs.joining.end_key.Goals as goal

pub returns-in_default-clause-joins : goal.returns-in_default-clause-joins
returns-in_default-clause-joins c = λ base. none-left KeyEnd c.args.nodes.now c.args.frames.now c.pop.new.self c.args.operand (λ _ _ _. refl) (c.in_default.ensures {u = tt}).0 (c.in_default.ensures {u = tt}).1 base c.args.token.now

pub returns-clause-joins : goal.returns-clause-joins
returns-clause-joins c = λ base. key-taken c.args.nodes.now c.indexed.new.nodes c.args.frames.now c.pop.new.self c.in-Some.frame c.args.operand c.in_ok-whole.whole c.args.token.now (c.in-Some.ensures {u = tt}) c.in_ok-whole.ensures.grows c.in_ok-whole.ensures.indexed base

pub returns-then-not-is_key-clause-joins : goal.returns-then-not-is_key-clause-joins
returns-then-not-is_key-clause-joins c = λ base. other-left KeyEnd c.args.nodes.now c.args.frames.now c.pop.new.self c.push.new.self c.in-Some.frame c.args.operand (refuses-key c.in-Some.frame (sym c.is_key.ensures ∙ c.if-not-is_key.true)) (c.in-Some.ensures {u = tt}) c.in_ok-push.ensures base c.args.token.now
