use Rattle.std.proofs.Common.{inl, refl, sym, ◌∙◌}
use Rattle.style_cascade.proofs.ForgetLemmas.{forgets-below, forgets-other, none-by}
use Rattle.style_cascade.proofs.styles.forget_below.Goals as goal

pub returns-then-has-clause-column : goal.returns-then-has-clause-column
returns-then-has-clause-column c = forgets-below c.args.tree.now c.args.values.now c.forget.new.self c.args.node.0 c.args.property c.args.first c.subtree_end-end.result c.subtree_end-end.ensures.end c.subtree_end-end.ensures.behind c.subtree_end-end.ensures.within c.forget.ensures

pub returns-then-has-clause-others : goal.returns-then-has-clause-others
returns-then-has-clause-others c = forgets-other c.args.values.now c.forget.new.self c.args.property c.args.first c.subtree_end-end.result c.forget.ensures

pub returns-then-has-clause-long : goal.returns-then-has-clause-long
returns-then-has-clause-long c = c.forget.ensures.long

pub returns-else-has-clause-column : goal.returns-else-has-clause-column
returns-else-has-clause-column c = inl (record {
  none = none-by c.args.values.now c.args.node.0 c.args.property (sym c.has.ensures ∙ c.if-has.false);
  same = λ other state. refl;
})

pub returns-else-has-clause-others : goal.returns-else-has-clause-others
returns-else-has-clause-others c = λ node state of ne. refl
