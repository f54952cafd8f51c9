use Rattle.std.proofs.Common.{sym, ◌∙◌}
use Rattle.es_expressions.proofs.JoinLemmas.{key-left, key-taken, taken-if}
use Rattle.es_expressions.proofs.joining.key.Goals as goal

pub returns-then-not-takes_links-clause-joins : goal.returns-then-not-takes_links-clause-joins
returns-then-not-takes_links-clause-joins c = λ base t. key-left c.args.operand c.args.nodes.now c.args.frames.now (sym c.takes_links.ensures ∙ c.if-not-takes_links.true) base t

pub returns-clause-joins : goal.returns-clause-joins
returns-clause-joins c = taken-if _ c.open.result _ c.open.ensures.place c.open.ensures.opened (λ o base t. key-taken c.args.operand c.args.nodes.now c.single.new.nodes c.args.frames.now c.open.new.frames c.in_ok-base.base (sym c.takes_links.ensures ∙ c.if-not-takes_links.false) c.in_ok-base.ensures.grows c.in_ok-base.ensures.single o base t)
