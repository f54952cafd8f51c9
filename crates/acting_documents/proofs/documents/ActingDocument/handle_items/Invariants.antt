use Rattle.std.proofs.Common.{map, take}
use Rattle.std.specs.Io.{StartsWith}
use Rattle.dom_tree.specs.declared.node_ids.NodeId.{NodeId}
use Rattle.acting_documents.specs.devices.Doings.{DoesInEnding}
use Rattle.acting_documents.specs.Beginnings.{items_effect}
use Rattle.acting_documents.proofs.documents.ActingDocument.handle_items.Given as goal

abbrev pub invariant-items : goal.invariant-items
invariant-items l =
    (DoesInEnding (items_effect (map (λ (node : NodeId). node.0) (take l.item-index l.items))) l.fn.self l.self l.fn.out.items l.out.items)
    × (StartsWith l.out.items l.fn.out.items)
