use Rattle.std.specs.Prelude.{◌+◌, ◌<◌, ◌↔◌, [], length, Contains, IfSome}
use Rattle.std.specs.Option.{option_map_or}
use Rattle.dom_tree.specs.Walks.{path_of, IsOpen}
use Rattle.dom_tree.specs.NodeNumbers.{number_of}
use Rattle.dom_tree.proofs.trees.Tree.is_open.Given as goal

abbrev pub invariant-loop-up : goal.invariant-loop-up
invariant-loop-up l = IfSome l.up (λ n. n.0 < length l.self) × (IsOpen l.self l.node.0 ↔ Contains (option_map_or (path_of l.self) (number_of l.up) []) l.node.0)

abbrev pub decreases-loop-up : goal.decreases-loop-up
decreases-loop-up l = option_map_or (λ n. n.0 + 1) l.up 0
