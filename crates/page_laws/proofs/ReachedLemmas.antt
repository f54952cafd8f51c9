-- What a sound document has of a node is the number of one that is there.
use Rattle.std.proofs.Common.{◌≡◌, ◌∙◌, ℕ, true, List, length, inl, inr, Option, Some, None, refl, sym, ap}
use Rattle.std.specs.Prelude.{is_some, option_and_then, slice_get}
use Rattle.std.proofs.lemmas.Bool.{lt-ltb}
use Rattle.std.proofs.lemmas.Option.{slice_get_within}
use Rattle.std.proofs.lemmas.List.Elements.{All-contains}
use Rattle.dom_tree.specs.Items.{Item, tag_in}
use Rattle.dom_tree.specs.NodeNumbers.{number_of}
use Rattle.es_values.specs.declared.values.Value.{Value}
use Rattle.event_queue.specs.declared.events.Event.{Event}
use Rattle.event_queue.specs.declared.events.Event.TheVariants as events
use Rattle.script_laws.specs.Passing.{ObjectPasses}
use Rattle.acting_documents.specs.Documents.{Document}
use Rattle.page_laws.specs.Reached.{IsReached, named_by, node_value}
use Rattle.page_laws.specs.Soundness.{IsSoundDocument, has_element, has_node, is_good_event, is_good_in, is_good_place}

-- an element is a node
element-is : (items : List Item) (node : ℕ) → has_element items node ≡ true → has_node items node ≡ true
element-is items node e = by (slice_get items node) refl e
  where
    by : (o : Option Item) → slice_get items node ≡ o → is_some (option_and_then (λ item. tag_in item.content) o) ≡ true → has_node items node ≡ true
    by None is e = absurd cc
    by (Some item) is e = lt-ltb node (length items) (slice_get_within items node item is)

value-is : (d : Document) (value : Value) (node : ℕ) → is_good_in d value ≡ true → value ≡ node_value node → has_node d.tree.items node ≡ true
value-is d value node good is = ap (is_good_in d) (sym is) ∙ good

same-node : (items : List Item) (other node : ℕ) → has_element items other ≡ true → Some other ≡ Some node → has_element items node ≡ true
same-node items other node good is = let same : other ≡ node = cc in ap (has_element items) (sym same) ∙ good

no-node : (items : List Item) (node : ℕ) → None ≡ Some node → has_element items node ≡ true
no-node items node is = absurd cc

event-is : (items : List Item) (event : Event) (node : ℕ) → is_good_event items event ≡ true → named_by event ≡ Some node → has_element items node ≡ true
event-is items (events.Focus other) node good is = same-node items other node good is
event-is items (events.Blur other) node good is = same-node items other node good is
event-is items (events.Click other) node good is = same-node items other node good is
event-is items (events.Fired other component message) node good is = same-node items other node good is
event-is items (events.Updated other status) node good is = same-node items other node good is
event-is items (events.Locked other status) node good is = same-node items other node good is
event-is items (events.Button other) node good is = same-node items other node good is
event-is items (events.DataEvent other) node good is = same-node items other node good is
event-is items _ node good is = no-node items node is

place-is : (items : List Item) (place : Option ℕ) (node : ℕ) → is_good_place items place ≡ true → place ≡ Some node → has_element items node ≡ true
place-is items place node good is = ap (λ (o : Option ℕ). is_good_place items o) (sym is) ∙ good

pub reached-is : (d : Document) → IsSoundDocument d → (node : ℕ) → IsReached d node → has_node d.tree.items node ≡ true
reached-is d sound node (inl g) =
    value-is d g.global.1 node (All-contains (λ (global : List ℕ × Value). is_good_in d global.1 ≡ true) d.globals g.global sound.globals g.there) g.is
reached-is d sound node (inr (inl p)) =
    let its = All-contains (ObjectPasses (is_good_in d)) d.heap p.object sound.properties p.object_there in
    value-is d p.property.1 node (All-contains (λ (property : List ℕ × Value). is_good_in d property.1 ≡ true) p.object.properties p.property its p.there) p.is
reached-is d sound node (inr (inr (inl e))) =
    element-is d.tree.items node
    (event-is d.tree.items e.event node (All-contains (λ (event : Event). is_good_event d.tree.items event ≡ true) d.queue e.event sound.events e.there) e.is)
reached-is d sound node (inr (inr (inr (inl f)))) =
    element-is d.tree.items node (place-is d.tree.items (number_of d.tree.focus.focus) node sound.focus f)
reached-is d sound node (inr (inr (inr (inr a)))) =
    element-is d.tree.items node (place-is d.tree.items (number_of d.tree.focus.active) node sound.active a)
