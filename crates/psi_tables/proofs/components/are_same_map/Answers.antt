use Rattle.std.proofs.Common.{sym, ◌∙◌}
use Rattle.psi_tables.proofs.ComponentLemmas.{same_map, no_same}
use Rattle.psi_tables.proofs.components.are_same_map.Goals as goal

pub returns-then-agree_on-clause-same : goal.returns-then-agree_on-clause-same
returns-then-agree_on-clause-same c = λ yes. same_map c.args.map.now c.args.other.now (sym c.agree_on.ensures ∙ c.if-agree_on.true) (sym c.agree_on-then-agree_on.ensures ∙ yes)

pub returns-then-agree_on-clause-differ : goal.returns-then-agree_on-clause-differ
returns-then-agree_on-clause-differ c = λ no. no_same c.args.other.now c.args.map.now c.args.other.now (sym c.agree_on-then-agree_on.ensures ∙ no)

pub returns-else-agree_on-clause-differ : goal.returns-else-agree_on-clause-differ
returns-else-agree_on-clause-differ c = λ no. no_same c.args.map.now c.args.map.now c.args.other.now (sym c.agree_on.ensures ∙ no)
