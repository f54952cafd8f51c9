use Rattle.std.specs.Prelude.{◌≡◌, drop}
use Rattle.dom_tree.specs.Items.{has_id}
use Rattle.dom_tree.specs.Walks.{places_from, first, node_of_id}
use Rattle.dom_tree.specs.Links.{items_in}
use Rattle.dom_tree.proofs.trees.changes.first_of_id.Given as goal

abbrev pub invariant-loop-node : goal.invariant-loop-node
invariant-loop-node l = (l.number ≡ l.node-index) × (node_of_id (items_in l.nodes) l.id ≡ first (places_from (has_id l.id) l.node-index (drop l.node-index (items_in l.nodes))))
