use Rattle.std.proofs.Common.{◌∙◌, List, ap, map, subst}
use Rattle.std.proofs.lemmas.Result.{on_ok_weaker}
use Rattle.dom_tree.specs.declared.node_ids.NodeId.{NodeId}
use Rattle.event_items.specs.Subscriptions.{data_event_items}
use Rattle.acting_documents.specs.Beginnings.{data_event_effect, items_effect}
use Rattle.acting_documents.specs.devices.Doings.{Does, DoesInEnding}
use Rattle.acting_documents.specs.devices.Kept.{KeptDocument}
use Rattle.acting_documents.proofs.DataEventLemmas.{ends-for-data-event}
use Rattle.acting_documents.proofs.documents.ActingDocument.end_for_data_event.Goals as goal

pub returns-clause-does : goal.returns-clause-does
returns-clause-does c =
    let old = c.args.self.now in
    let waiting = c.drop_waiting.new.self in
    let middle = c.handle_items.new.self in
    let new = c.handle.new.self in
    let before = c.args.out.now.items in
    let between = c.handle_items.new.out.items in
    let after = c.handle.new.out.items in
    let nodes = c.in_ok-items.items.items in
    on_ok_weaker {Q = Does data_event_effect old new before after} c.handle.result
    (λ does. ends-for-data-event nodes old waiting middle new before between after
    (c.in_ok-items.ensures ∙ ap (λ (kept : KeptDocument). data_event_items kept.items) c.self.view_is) c.drop_waiting.ensures
    (subst (λ (all : List NodeId). DoesInEnding (items_effect (map (λ (node : NodeId). node.0) all)) waiting middle before between) c.as_slice.ensures.value c.in_ok-handle_items.ensures.does) does)
    c.handle.ensures.does
