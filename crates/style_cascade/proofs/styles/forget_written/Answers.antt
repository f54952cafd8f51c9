use Rattle.std.proofs.Common.{ℕ, subst, sym, ◌∙◌}
use Rattle.style_cascade.specs.devices.Tables.{Forgets}
use Rattle.style_cascade.proofs.ForgetLemmas.{path-first, unsets-below, unsets-here}
use Rattle.style_cascade.proofs.styles.forget_written.Goals as goal

pub returns-then-inherits : goal.returns-then-inherits
returns-then-inherits c = unsets-below c.args.tree.now c.args.values.now c.forget_below.new.values c.args.node.0 c.args.property c.forget_below.ensures.long c.forget_below.ensures.column c.forget_below.ensures.others

pub returns-else-inherits : goal.returns-else-inherits
returns-else-inherits c = unsets-here c.args.tree.now c.args.values.now c.forget.new.self c.args.node.0 c.args.property (path-first c.args.tree.now c.args.node.0) (sym c.is_inherited-inherits.ensures ∙ c.if-inherits.false) (subst (λ (n : ℕ). Forgets c.args.values.now c.forget.new.self c.args.property c.args.node.0 n) c.number_behind.ensures c.forget.ensures)
