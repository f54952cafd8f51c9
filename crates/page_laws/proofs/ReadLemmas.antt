-- What scripts read of a document names what is there.
use Rattle.std.proofs.Common.{◌≡◌, ℕ, zero, suc, ◌<◌, Bool, true, false, List, [], ◌∷◌, ◌++◌, length, Option, Some, None, refl, ap, arith}
use Rattle.std.specs.Prelude.{All, IfSome, codes, if◌then◌else◌, is_some, unwrap_or}
use Rattle.std.specs.List.{AllByRecursion}
use Rattle.std.specs.Map.{lookup}
use Rattle.std.specs.Option.{option_map_or}
use Rattle.std.proofs.lemmas.Bool.{lt-ltb}
use Rattle.std.proofs.lemmas.List.Elements.{All-append, All-cons, All-from_recursion, All-nil}
use Rattle.std.proofs.lemmas.Map.Entries.{All-lookup}
use Rattle.bml_bytes.specs.Words.{is_same}
use Rattle.dom_tree.specs.Items.{Item, has_id, parent_of, tag_of, text_of}
use Rattle.dom_tree.specs.NodeNumbers.{number_of}
use Rattle.dom_tree.specs.Walks.{after, before, children_of, first, hangs_in, last, node_of_id, places, siblings_of}
use Rattle.style_reader.specs.declared.properties.Property.{Property}
use Rattle.style_cascade.specs.StyledTrees.{StyledTree}
use Rattle.style_cascade.specs.declared.states.Focus.{Focus}
use Rattle.style_cascade.specs.declared.states.State.{State}
use Rattle.es_values.specs.declared.values.HostRef.{HostRef}
use Rattle.es_values.specs.declared.values.HostRef.TheVariants as ref
use Rattle.es_values.specs.declared.values.Value.{Value}
use Rattle.es_values.specs.declared.values.Value.TheVariants.{Undefined, Null, Str, Object, Function, Host}
use Rattle.es_values.specs.Values.{is_plain}
use Rattle.event_queue.specs.declared.events.Event.{Event}
use Rattle.event_queue.specs.declared.events.Event.TheVariants as events
use Rattle.event_queue.specs.Events.{name_of}
use Rattle.dom_objects.specs.Parts.{Parts, state_of_number}
use Rattle.dom_objects.specs.Reads.{ElementRow, ElementTable, Rows, document_rows, element_rows, element_table, element_value, event_rows, is_seen, node_rows, node_value, own_event_rows, own_rows, own_table, property_named, read_in, read_value, table_rows, seen_event, style_read, style_text, text_rows, walk_rows}
use Rattle.dom_objects.specs.Reads.ElementRow.{Tag, Attribute, StyleFor}
use Rattle.dom_objects.specs.declared.current_events.CurrentEvent.{CurrentEvent}
use Rattle.page_laws.specs.Soundness.{has_element, has_node, is_good, is_good_place, names_well}
use Rattle.page_laws.proofs.WalkLemmas.{IsBelow, after-below, before-below, first-below, last-below, places-below}

-- What a document gives: no object and no function, and a reference names what is there.
abbrev pub is_given : List Item → Value → Bool
is_given items (Host reference) = names_well items reference
is_given items (Object number) = false
is_given items (Function number) = false
is_given items other = true

abbrev pub IsGiven : List Item → Value → Type 0
IsGiven items value = is_given items value ≡ true

pub given-plain : (items : List Item) (value : Value) → IsGiven items value
    → is_plain value ≡ true
given-plain items (Object number) h = h
given-plain items (Function number) h = h
given-plain items _ h = refl

pub given-good : (items : List Item) (limit : ℕ) (value : Value) → IsGiven items value
    → is_good items limit value ≡ true
given-good items limit (Host reference) h = h
given-good items limit (Function number) h = absurd (cc h)
given-good items limit _ h = refl

-- ---- nodes

pub node-given : (items : List Item) (node : Option ℕ) → IsBelow (length items) node
    → IsGiven items (node_value node)
node-given items None h = refl
node-given items (Some node) h = lt-ltb node (length items) h

-- an element is a node
pub element-node : (items : List Item) (node : ℕ) → has_element items node ≡ true
    → node < length items
element-node [] node h = absurd (cc h)
element-node (item ∷ items) zero h = omega arith
element-node (item ∷ items) (suc node) h = omega (arith, element-node items node h)

pub place-below : (items : List Item) (node : Option ℕ) → is_good_place items node ≡ true
    → IsBelow (length items) node
place-below items None h = tt
place-below items (Some node) h = element-node items node h

-- that a node hangs in one that is before it
abbrev pub HangBefore : List Item → Type 0
HangBefore items =
    (node up : ℕ) → parent_of items node ≡ Some up → (up < node) × (node < length items)

parent-below : (items : List Item) → HangBefore items → (node : ℕ)
    → IsBelow (length items) (parent_of items node)
parent-below items hang node = by (parent_of items node) refl
  where
    by : (up : Option ℕ) → parent_of items node ≡ up → IsBelow (length items) up
    by None e = tt
    by (Some up) e = omega (arith, hang node up e)

-- ---- rows

abbrev RowsGive : List Item → Rows → Type 0
RowsGive items rows = All (λ row. IsGiven items row.1) rows

abbrev EachGives : List Item → Rows → Type 0
EachGives items rows = AllByRecursion (λ row. IsGiven items row.1) rows

each-gives : (items : List Item) (rows : Rows) → EachGives items rows → RowsGive items rows
each-gives items rows all = All-from_recursion (λ row. IsGiven items row.1) rows all

-- what is read of rows is the value of one, or Undefined
read-given : (items : List Item) (rows : Rows) → RowsGive items rows → (name : List ℕ)
    → IsGiven items (read_in rows name)
read-given items rows all name =
    by (lookup (is_same name) rows) (All-lookup (IsGiven items) (is_same name) rows all)
  where
    by : (found : Option Value) → IfSome found (IsGiven items)
        → IsGiven items (unwrap_or found Undefined)
    by None h = refl
    by (Some value) h = h

-- ---- the rows of nodes

walks-give : (items : List Item) → HangBefore items → (node : ℕ)
    → RowsGive items (walk_rows items node)
walks-give items hang node =
    let limit = length items in
    let children = places-below (hangs_in (Some node)) items in
    let siblings = places-below (hangs_in (parent_of items node)) items in
    each-gives items (walk_rows items node) (
      node-given items (parent_of items node) (parent-below items hang node),
      (
        node-given items (first (children_of items node))
            (first-below limit (children_of items node) children),
        (
          node-given items (last (children_of items node))
              (last-below limit (children_of items node) children),
          (
            node-given items (before (siblings_of items node) node)
                (before-below limit (siblings_of items node) node siblings),
            (
              node-given items (after (siblings_of items node) node)
                  (after-below limit (siblings_of items node) node siblings),
              tt,
            ),
          ),
        ),
      ),
    )

-- a tag and the value of an attribute are texts
row-given : (items : List Item) (node : ℕ) (tag : List ℕ) → has_element items node ≡ true
    → (row : ElementRow) → IsGiven items (element_value items node tag row)
row-given items node tag there Tag = refl
row-given items node tag there (Attribute name) = refl
row-given items node tag there (StyleFor state) = there

tables-give : (items : List Item) (node : ℕ) (tag : List ℕ) → has_element items node ≡ true
    → (table : ElementTable) → RowsGive items (table_rows items node tag table)
tables-give items node tag there [] = All-nil (λ (row : List ℕ × Value). IsGiven items row.1)
tables-give items node tag there (row ∷ table) =
    All-cons (λ (row : List ℕ × Value). IsGiven items row.1) _ (table_rows items node tag table)
    (row-given items node tag there row.1) (tables-give items node tag there table)

texts-give : (items : List Item) (text : List ℕ) → RowsGive items (text_rows text)
texts-give items text = each-gives items (text_rows text) (refl, (refl, tt))

node_rows-give : (items : List Item) → HangBefore items → (node : ℕ)
    → RowsGive items (node_rows items node)
unfolding node_rows
node_rows-give items hang node = by (tag_of items node) refl (text_of items node)
  where
    by : (tag : Option (List ℕ)) → tag_of items node ≡ tag → (text : Option (List ℕ))
        → RowsGive items (option_map_or
        (λ tag. walk_rows items node ++ (element_rows items node tag ++ own_rows items node tag))
        tag (option_map_or (λ text. walk_rows items node ++ text_rows text) text []))
    by (Some tag) e text =
        let there : has_element items node ≡ true = ap is_some e in
        All-append (λ row. IsGiven items row.1) (walk_rows items node)
        (element_rows items node tag ++ own_rows items node tag) (walks-give items hang node)
        (All-append (λ row. IsGiven items row.1) (element_rows items node tag)
        (own_rows items node tag) (tables-give items node tag there element_table)
        (tables-give items node tag there (own_table tag)))
    by None e (Some text) =
        All-append (λ row. IsGiven items row.1) (walk_rows items node) (text_rows text)
        (walks-give items hang node) (texts-give items text)
    by None e None = All-nil (λ (row : List ℕ × Value). IsGiven items row.1)

-- ---- the rows of the document, of the current event and of styles

-- what only events of some kinds have are numbers and texts
own-give : (items : List Item) (event : Event) → EachGives items (own_event_rows items event)
own-give items (events.KeyDown key) = (refl, tt)
own-give items (events.KeyUp key) = (refl, tt)
own-give items (events.Default key) = (refl, tt)
own-give items (events.Updated item status) = (refl, (refl, tt))
own-give items (events.Locked item status) = (refl, (refl, tt))
own-give items (events.Fired item component message) =
    (refl, (refl, (refl, (refl, (refl, tt)))))
own-give items _ = tt

-- the target of the current event, if there is one, is a node
abbrev pub has_target : List Item → CurrentEvent → Bool
has_target items current = option_map_or (λ event. has_node items current.target) current.event true

events-give : (items : List Item) (current : CurrentEvent) → has_target items current ≡ true
    → EachGives items (event_rows items current)
events-give items current h = by current.event h
  where
    of : (seen : Bool) (event : Event) → has_node items current.target ≡ true
        → EachGives items (option_map_or
        (λ event. (codes "type", Str (name_of event))
        ∷ (codes "target", Host (ref.Node current.target)) ∷ own_event_rows items event)
        (if seen then Some event else None) [])
    of true event h = (refl, (h, own-give items event))
    of false event h = tt

    by : (event : Option Event)
        → option_map_or (λ event. has_node items current.target) event true ≡ true
        → EachGives items (option_map_or
        (λ event. (codes "type", Str (name_of event))
        ∷ (codes "target", Host (ref.Node current.target)) ∷ own_event_rows items event)
        (seen_event event) [])
    by None h = tt
    by (Some event) h = of (is_seen event) event h

document-gives : (items : List Item) (focus : Focus) (current : CurrentEvent)
    → is_good_place items (number_of focus.focus) ≡ true
    → EachGives items (document_rows focus current)
document-gives items focus current h = (
  by (seen_event current.event),
  (
    node-given items (number_of focus.focus) (place-below items (number_of focus.focus) h),
    tt,
  ),
)
  where
    by : (event : Option Event) → IsGiven items (option_map_or (λ event. Host ref.Event) event Null)
    by None = refl
    by (Some event) = refl

style-given : (items : List Item) (tree : StyledTree) (node number : ℕ) (name : List ℕ)
    → IsGiven items (style_read tree node number name)
unfolding style_read
style-given items tree node number name =
    by (if is_some (tag_of tree.items node) then state_of_number number else None)
    (property_named name)
  where
    by : (state : Option State) (property : Option Property) → IsGiven items (option_map_or
        (λ state. option_map_or (style_text tree node state) property Undefined) state Undefined)
    by None property = refl
    by (Some state) None = refl
    by (Some state) (Some property) = refl

-- ---- all references

-- what is read of a document whose focus and whose current event name what is there
pub value-given : (parts : Parts) → HangBefore parts.tree.items
    → is_good_place parts.tree.items (number_of parts.tree.focus.focus) ≡ true
    → has_target parts.tree.items parts.event ≡ true → (base : HostRef) (name : List ℕ)
    → IsGiven parts.tree.items (read_value parts base name)
unfolding read_value
value-given parts hang focus event ref.Document name =
    let items = parts.tree.items in
    let rows = document_rows parts.tree.focus parts.event in
    read-given items rows
    (each-gives items rows (document-gives items parts.tree.focus parts.event focus)) name
value-given parts hang focus event ref.Event name =
    let items = parts.tree.items in
    let rows = event_rows items parts.event in
    read-given items rows (each-gives items rows (events-give items parts.event event)) name
value-given parts hang focus event (ref.Node node) name =
    let items = parts.tree.items in
    read-given items (node_rows items node) (node_rows-give items hang node) name
value-given parts hang focus event (ref.Style node number) name =
    style-given parts.tree.items parts.tree node number name
value-given parts hang focus event _ name = refl

-- the node of an id, if there is one
pub id-given : (items : List Item) (id : List ℕ) → IsGiven items (node_value (node_of_id items id))
id-given items id =
    node-given items (node_of_id items id)
    (first-below (length items) (places (has_id id) items) (places-below (has_id id) items))
