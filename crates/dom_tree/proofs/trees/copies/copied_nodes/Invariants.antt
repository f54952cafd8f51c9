use Rattle.std.proofs.Common.{◌≡◌, take}
use Rattle.dom_tree.specs.Links.{items_in, links_in}
use Rattle.dom_tree.proofs.trees.copies.copied_nodes.Given as goal

abbrev pub invariant-nodes : goal.invariant-nodes
invariant-nodes l = (items_in l.copy.items ≡ items_in (take l.node-index l.nodes)) × (links_in l.copy.items ≡ links_in (take l.node-index l.nodes))
