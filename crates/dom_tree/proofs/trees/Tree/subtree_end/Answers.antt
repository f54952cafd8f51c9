use Rattle.std.proofs.Common.{◌≡◌, ℕ, ◌≤◌, length, subst, arith}
use Rattle.dom_tree.specs.Walks.{IsEndOf}
use Rattle.dom_tree.proofs.SubtreeLemmas.{IsEndOf-next, IsEndOf-whole, IsInside-next}
use Rattle.dom_tree.proofs.trees.Tree.subtree_end.Goals as goal

pub returns-then-hangs_before-clause-end : goal.returns-then-hangs_before-clause-end
returns-then-hangs_before-clause-end c = IsEndOf-next c.args.self.now c.node_count-count.ensures.tree c.args.node.0 c.behind.number (omega arith) c.behind.invariant c.if-hangs_before.ensures.before

pub behind-preserved : goal.behind-preserved
behind-preserved c = IsInside-next c.args.self.now c.node_count-count.ensures.tree c.args.node.0 c.behind.number c.behind.invariant c.if-hangs_before.ensures.behind

pub returns-clause-end : goal.returns-clause-end
returns-clause-end c =
    let e : c.behind.number ≡ c.node_count-count.result = omega arith in
    let whole : length c.args.self.now ≤ c.behind.number = omega arith in
    subst (λ (k : ℕ). IsEndOf c.args.self.now c.args.node.0 k) e (IsEndOf-whole c.args.self.now c.node_count-count.ensures.tree c.args.node.0 c.behind.number c.behind.invariant whole)
