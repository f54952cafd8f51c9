-- What is read is neither an object nor a function.
use Rattle.std.proofs.Common.{◌≡◌, ℕ, Bool, true, false, cond, List, [], ◌∷◌, ◌++◌, Option, Some, None, codes, refl}
use Rattle.std.specs.Prelude.{◌&&◌, is_some, unwrap_or, if◌then◌else◌}
use Rattle.std.specs.List.{list_all}
use Rattle.std.specs.Option.{option_map_or}
use Rattle.std.proofs.lemmas.Bool.{and_parts}
use Rattle.bml_bytes.specs.Words.{is_same}
use Rattle.dom_tree.specs.Items.{Item, parent_of, tag_of, text_of}
use Rattle.dom_tree.specs.NodeNumbers.{number_of}
use Rattle.dom_tree.specs.Walks.{after, before, children_of, first, last, siblings_of}
use Rattle.style_cascade.specs.StyledTrees.{StyledTree}
use Rattle.style_cascade.specs.declared.states.Focus.{Focus}
use Rattle.style_cascade.specs.declared.states.State.{State}
use Rattle.style_reader.specs.declared.properties.Property.{Property}
use Rattle.es_values.specs.Values.{is_plain}
use Rattle.es_values.specs.declared.values.HostRef.{HostRef}
use Rattle.es_values.specs.declared.values.HostRef.TheVariants.{Document, Browser, Ureg, Greg, Event, Node, Style}
use Rattle.es_values.specs.declared.values.Value.TheVariants.{Undefined, Null, Str, Host}
use Rattle.event_queue.specs.Events.{name_of}
use Rattle.event_queue.specs.declared.events.Event.{Event as TheEvent}
use Rattle.event_queue.specs.declared.events.Event.TheVariants as events
use Rattle.dom_objects.specs.Parts.{Parts, state_of_number}
use Rattle.dom_objects.specs.declared.current_events.CurrentEvent.{CurrentEvent}
use Rattle.dom_objects.specs.Reads.{ElementRow, ElementTable, Rows, document_rows, element_rows, element_table, element_value, event_rows, own_event_rows, node_rows, node_value, own_rows, own_table, property_named, read_in, read_value, row_of, seen_event, table_rows, style_read, style_text, text_rows, walk_rows}
use Rattle.dom_objects.specs.Reads.ElementRow.{Tag, Attribute, StyleFor}

abbrev are_plain : Rows → Bool
are_plain rows = list_all (λ row. is_plain row.1) rows

plain-read : (rows : Rows) → are_plain rows ≡ true → (name : List ℕ) → is_plain (read_in rows name) ≡ true
plain-read [] plain name = refl
plain-read (row ∷ rows) plain name =
    let parts = and_parts (is_plain row.1) (are_plain rows) plain in
    by (is_same name row.0) parts.0 (plain-read rows parts.1 name)
  where
    by : (b : Bool) → is_plain row.1 ≡ true → is_plain (read_in rows name) ≡ true → is_plain (unwrap_or (cond b (Some row.1) (row_of name rows)) Undefined) ≡ true
    by true here there = here
    by false here there = there

-- ---- nodes

with_node : (node : Option ℕ) (rest : Bool) → rest ≡ true → (is_plain (node_value node) && rest) ≡ true
with_node None rest h = h
with_node (Some number) rest h = h

plain-walks : (items : List Item) (node : ℕ) (more : Rows) → are_plain more ≡ true → are_plain (walk_rows items node ++ more) ≡ true
plain-walks items node more h =
    with_node (parent_of items node) _ (with_node (first (children_of items node)) _ (with_node (last (children_of items node)) _
    (with_node (before (siblings_of items node) node) _ (with_node (after (siblings_of items node) node) _ h))))

plain-table : (items : List Item) (node : ℕ) (tag : List ℕ) (table : ElementTable) → are_plain (table_rows items node tag table) ≡ true
plain-table items node tag [] = refl
plain-table items node tag (row ∷ table) = by row.1 (are_plain (table_rows items node tag table)) (plain-table items node tag table)
  where
    by : (r : ElementRow) (rest : Bool) → rest ≡ true → (is_plain (element_value items node tag r) && rest) ≡ true
    by Tag rest h = h
    by (Attribute name) rest h = h
    by (StyleFor state) rest h = h

plain-both : (one other : Rows) → are_plain one ≡ true → are_plain other ≡ true → are_plain (one ++ other) ≡ true
plain-both [] other h k = k
plain-both (row ∷ one) other h k =
    let parts = and_parts (is_plain row.1) (are_plain one) h in
    by (is_plain row.1) parts.0 (plain-both one other parts.1 k)
  where
    by : (b : Bool) → b ≡ true → are_plain (one ++ other) ≡ true → (b && are_plain (one ++ other)) ≡ true
    by true e rest = rest
    by false e rest = absurd (cc e)

plain-nodes : (items : List Item) (node : ℕ) → are_plain (node_rows items node) ≡ true
unfolding node_rows
plain-nodes items node = by (tag_of items node) (text_of items node)
  where
    by : (tag text : Option (List ℕ)) → are_plain (option_map_or (λ t. walk_rows items node ++ (element_rows items node t ++ own_rows items node t)) tag (option_map_or (λ t. walk_rows items node ++ text_rows t) text [])) ≡ true
    by (Some tag) text =
        plain-walks items node (element_rows items node tag ++ own_rows items node tag)
        (plain-both (element_rows items node tag) (own_rows items node tag) (plain-table items node tag element_table) (plain-table items node tag (own_table tag)))
    by None (Some text) = plain-walks items node (text_rows text) refl
    by None None = refl

-- ---- the document and the current event

plain-document : (focus : Focus) (current : CurrentEvent) → are_plain (document_rows focus current) ≡ true
plain-document focus current = by (seen_event current.event) (number_of focus.focus)
  where
    by : (event : Option TheEvent) (node : Option ℕ) → (is_plain (option_map_or (λ e. Host Event) event Null) && (is_plain (node_value node) && true)) ≡ true
    by None None = refl
    by None (Some node) = refl
    by (Some event) None = refl
    by (Some event) (Some node) = refl

plain-own : (items : List Item) (event : TheEvent) → are_plain (own_event_rows items event) ≡ true
plain-own items events.Load = refl
plain-own items events.Unload = refl
plain-own items (events.Focus node) = refl
plain-own items (events.Blur node) = refl
plain-own items (events.Click node) = refl
plain-own items (events.Timer node) = refl
plain-own items (events.KeyDown key) = refl
plain-own items (events.KeyUp key) = refl
plain-own items (events.Default key) = refl
plain-own items (events.Fired item component message) = refl
plain-own items (events.Updated item status) = refl
plain-own items (events.Locked item status) = refl
plain-own items (events.Button item) = refl
plain-own items (events.DataEvent item) = refl

plain-events : (items : List Item) (current : CurrentEvent) → are_plain (event_rows items current) ≡ true
plain-events items current = by (seen_event current.event)
  where
    by : (event : Option TheEvent)
        → are_plain (option_map_or (λ (e : TheEvent). (codes "type", Str (name_of e)) ∷ (codes "target", Host (Node current.target)) ∷ own_event_rows items e) event []) ≡ true
    by None = refl
    by (Some event) = plain-own items event

-- ---- styles

plain-styles : (tree : StyledTree) (node number : ℕ) (name : List ℕ) → is_plain (style_read tree node number name) ≡ true
unfolding style_read
plain-styles tree node number name = by (if is_some (tag_of tree.items node) then state_of_number number else None) (property_named name)
  where
    by : (state : Option State) (property : Option Property) → is_plain (option_map_or (λ s. option_map_or (style_text tree node s) property Undefined) state Undefined) ≡ true
    by None property = refl
    by (Some state) None = refl
    by (Some state) (Some property) = refl

-- ---- all references

pub plain-value : (parts : Parts) (base : HostRef) (name : List ℕ) → is_plain (read_value parts base name) ≡ true
unfolding read_value
plain-value parts Document name = plain-read (document_rows parts.tree.focus parts.event) (plain-document parts.tree.focus parts.event) name
plain-value parts Browser name = refl
plain-value parts Ureg name = refl
plain-value parts Greg name = refl
plain-value parts Event name = plain-read (event_rows parts.tree.items parts.event) (plain-events parts.tree.items parts.event) name
plain-value parts (Node node) name = plain-read (node_rows parts.tree.items node) (plain-nodes parts.tree.items node) name
plain-value parts (Style node number) name = plain-styles parts.tree node number name
