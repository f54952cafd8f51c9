use Rattle.std.proofs.Common.{List, map, subst, arith}
use Rattle.std.proofs.lemmas.List.{take_all, take_more}
use Rattle.dom_tree.specs.declared.node_ids.NodeId.{NodeId}
use Rattle.acting_documents.specs.devices.Doings.{DoesInEnding}
use Rattle.acting_documents.specs.Beginnings.{items_effect}
use Rattle.acting_documents.proofs.DataEventLemmas.{ending_grows, more-items, no-items}
use Rattle.acting_documents.proofs.documents.ActingDocument.handle_items.Goals as goal

pub items-init : goal.items-init
items-init c =
    let none = no-items c.args.self.now c.args.out.now.items in
    (none, ending_grows _ c.args.self.now c.args.self.now c.args.out.now.items c.args.out.now.items none)

pub items-preserved : goal.items-preserved
items-preserved c =
    let nodes = c.args.items.now in
    let index = c.items.item-index in
    let old = c.args.self.now in
    let new = c.handle.new.self in
    let before = c.args.out.now.items in
    let after = c.handle.new.out.items in
    let done = more-items nodes index _ old c.items.self new before c.items.out.items after (take_more nodes index _ (omega arith)) c.items.invariant.0 c.in_ok-handle.ensures.does in
    (done, ending_grows _ old new before after done)

pub returns-clause-does : goal.returns-clause-does
returns-clause-does c =
    subst (λ (all : List NodeId). DoesInEnding (items_effect (map (λ (node : NodeId). node.0) all)) c.args.self.now c.items.self c.args.out.now.items c.items.out.items)
    (take_all c.items.item-index c.args.items.now (omega arith)) c.items.invariant.0
