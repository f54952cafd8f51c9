use Rattle.std.proofs.Common.{sym, ◌∙◌, ap}
use Rattle.es_expressions.specs.Machine.{is_close}
use Rattle.es_expressions.proofs.TakeLemmas.{empty-taken, empty-unlike, empty-other, empty-none}
use Rattle.es_expressions.proofs.reader.end_empty.Goals as goal

pub returns-then-not-is_close-clause-empties : goal.returns-then-not-is_close-clause-empties
returns-then-not-is_close-clause-empties c = empty-unlike c.args.token.now c.args.nodes.now c.args.frames.now (sym (c.is_close.ensures ∙ ap is_close c.joint_of.ensures) ∙ c.if-not-is_close.true)

pub returns-in_default-clause-empties : goal.returns-in_default-clause-empties
returns-in_default-clause-empties c = empty-none c.args.token.now c.args.nodes.now c.args.frames.now c.pop.new.self (c.in_default.ensures {u = tt}).0 (c.in_default.ensures {u = tt}).1

pub returns-then-not-is_empty_call-clause-empties : goal.returns-then-not-is_empty_call-clause-empties
returns-then-not-is_empty_call-clause-empties c = empty-other c.args.token.now c.args.nodes.now c.args.frames.now c.pop.new.self c.push.new.self c.in-Some.frame (sym c.is_empty_call.ensures ∙ c.if-not-is_empty_call.true) (c.in-Some.ensures {u = tt}) c.in_ok-push.ensures

pub returns-clause-empties : goal.returns-clause-empties
returns-clause-empties c = empty-taken c.args.token.now c.args.nodes.now c.emptied.new.nodes c.args.frames.now c.pop.new.self c.in-Some.frame c.in_ok-whole.whole (sym (c.is_close.ensures ∙ ap is_close c.joint_of.ensures) ∙ c.if-not-is_close.false) (c.in-Some.ensures {u = tt}) c.in_ok-whole.ensures.grows c.in_ok-whole.ensures.emptied
