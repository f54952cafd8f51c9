use Rattle.std.proofs.Common.{sym, ◌∙◌}
use Rattle.es_expressions.proofs.JoinLemmas.{dot-left, dot-taken}
use Rattle.es_expressions.proofs.joining.dot.Goals as goal

pub returns-then-not-takes_links-clause-joins : goal.returns-then-not-takes_links-clause-joins
returns-then-not-takes_links-clause-joins c = λ base t xs. dot-left c.args.operand c.args.nodes.now (sym c.takes_links.ensures ∙ c.if-not-takes_links.true) base t xs

pub returns-clause-joins : goal.returns-clause-joins
returns-clause-joins c = λ base t xs. dot-taken c.args.operand c.args.nodes.now c.single.new.nodes c.in_ok-base.base (sym c.takes_links.ensures ∙ c.if-not-takes_links.false) c.in_ok-base.ensures.grows c.in_ok-base.ensures.single base t xs
