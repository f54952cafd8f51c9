-- The numbers of nodes (this project's own form of references to nodes).
use Rattle.std.specs.Prelude.{ℕ, Option, option_map}
use Rattle.dom_tree.specs.declared.node_ids.NodeId.{NodeId}

-- the number of a node that may be absent
abbrev pub number_of : Option NodeId → Option ℕ
number_of node = option_map (λ n. n.0) node
