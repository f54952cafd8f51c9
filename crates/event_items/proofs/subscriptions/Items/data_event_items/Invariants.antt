use Rattle.std.proofs.Common.{◌≡◌, map, take}
use Rattle.dom_tree.specs.declared.node_ids.NodeId.{NodeId}
use Rattle.event_items.proofs.DataEventLemmas.{nodes_among}
use Rattle.event_items.proofs.subscriptions.Items.data_event_items.Given as goal

abbrev pub invariant-items : goal.invariant-items
invariant-items l = map (λ (node : NodeId). node.0) l.nodes.items ≡ nodes_among l.self (take l.item-index l.self.items)
