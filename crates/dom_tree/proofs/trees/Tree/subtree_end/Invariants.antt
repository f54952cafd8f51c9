use Rattle.dom_tree.proofs.SubtreeLemmas.{IsInside}
use Rattle.dom_tree.proofs.trees.Tree.subtree_end.Given as goal

abbrev pub invariant-behind : goal.invariant-behind
invariant-behind l = IsInside l.self l.node.0 l.number
