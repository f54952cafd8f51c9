-- What scripts read of the document, of its nodes, of their styles and of the current event: the
-- rows of a table, names with their values (after the DOM interfaces of BML, ARIB STD-B24 volume 2,
-- in this project's own profile). A name that has no row reads as Undefined.
use Rattle.std.specs.Prelude.{ℕ, Bool, true, false, is_some, if◌then◌else◌, pos, List, [], ◌∷◌, ◌++◌, length, Option, Some, None, codes, find, unwrap_or}
use Rattle.std.specs.Map.{lookup}
use Rattle.std.specs.Option.{option_map_or}
use Rattle.bml_bytes.specs.Words.{is_same}
use Rattle.dom_tree.specs.Items.{Item, parent_of, tag_of, text_of, value_of}
use Rattle.dom_tree.specs.NodeNumbers.{number_of}
use Rattle.dom_tree.specs.Walks.{after, before, children_of, first, last, siblings_of}
use Rattle.style_reader.specs.Properties.{all_properties, script_name_of}
use Rattle.style_reader.specs.Values.{printed}
use Rattle.style_reader.specs.declared.properties.Property.{Property}
use Rattle.style_cascade.specs.StyledTrees.{StyledTree, styled_value}
use Rattle.style_cascade.specs.declared.states.Focus.{Focus}
use Rattle.style_cascade.specs.declared.states.State.{State}
use Rattle.style_cascade.specs.declared.states.State.TheVariants as states
use Rattle.es_values.specs.Numbers.{number_of_count}
use Rattle.es_values.specs.declared.numbers.Num.TheVariants.{Whole}
use Rattle.es_values.specs.declared.values.HostRef.{HostRef}
use Rattle.es_values.specs.declared.values.HostRef.TheVariants.{Document, Event, Node, Style}
use Rattle.es_values.specs.declared.values.Value.{Value}
use Rattle.es_values.specs.declared.values.Value.TheVariants.{Undefined, Null, Number, Str, Host}
use Rattle.event_queue.specs.Events.{name_of}
use Rattle.event_queue.specs.declared.events.Event.{Event as TheEvent}
use Rattle.event_queue.specs.declared.events.Event.TheVariants as events
use Rattle.event_messages.specs.declared.messages.Message.{Message}
use Rattle.bml_bytes.specs.Numerals.{hex_digits}
use Rattle.dom_objects.specs.Parts.{Parts, state_number, state_of_number}
use Rattle.dom_objects.specs.declared.current_events.CurrentEvent.{CurrentEvent}

-- names with the values that they read as
abbrev pub Rows : Type 0
Rows = List (List ℕ × Value)

-- the value of the row of this name
abbrev pub row_of : List ℕ → Rows → Option Value
row_of name rows = lookup (is_same name) rows

abbrev pub read_in : Rows → List ℕ → Value
read_in rows name = unwrap_or (row_of name rows) Undefined

-- a node, or Null
abbrev pub node_value : Option ℕ → Value
node_value node = option_map_or (λ number. Host (Node number)) node Null

-- ---- nodes

-- any node: its neighbours
abbrev pub walk_rows : List Item → ℕ → Rows
walk_rows items node =
    (codes "parentNode", node_value (parent_of items node))
    ∷ (codes "firstChild", node_value (first (children_of items node)))
    ∷ (codes "lastChild", node_value (last (children_of items node)))
    ∷ (codes "previousSibling", node_value (before (siblings_of items node) node))
    ∷ (codes "nextSibling", node_value (after (siblings_of items node) node)) ∷ []

-- a text
abbrev pub text_rows : List ℕ → Rows
text_rows text =
    (codes "data", Str text) ∷ (codes "length", Number (number_of_count (length text))) ∷ []

-- the style of an element for a state
abbrev pub style_of : ℕ → State → Value
style_of node state = Host (Style node (state_number state))

-- what an element has under a name: its tag, an attribute, or its style for a state
pub data ElementRow : Type 0 where
  Tag : ElementRow
  Attribute : (name : List ℕ) → ElementRow
  StyleFor : (state : State) → ElementRow

abbrev pub ElementTable : Type 0
ElementTable = List (List ℕ × ElementRow)

-- what each element has
abbrev pub element_table : ElementTable
element_table =
    (codes "tagName", Tag)
    ∷ (codes "id", Attribute (codes "id"))
    ∷ (codes "className", Attribute (codes "class"))
    ∷ (codes "accessKey", Attribute (codes "accesskey"))
    ∷ (codes "normalStyle", StyleFor states.Normal)
    ∷ (codes "focusStyle", StyleFor states.Focus)
    ∷ (codes "activeStyle", StyleFor states.Active) ∷ []

-- what only an object and only an input have; their tags compare by case
abbrev pub is_object_tag : List ℕ → Bool
is_object_tag tag = is_same tag (codes "object")

abbrev pub is_input_tag : List ℕ → Bool
is_input_tag tag = is_same tag (codes "input")

abbrev pub own_table : List ℕ → ElementTable
own_table tag =
    if is_object_tag tag
    then (codes "data", Attribute (codes "data")) ∷ (codes "type", Attribute (codes "type")) ∷ []
    else if is_input_tag tag
    then (codes "value", Attribute (codes "value")) ∷ []
    else []

-- an attribute reads as the empty text where it is absent
abbrev pub attribute_value : List Item → ℕ → List ℕ → Value
attribute_value items node name = Str (unwrap_or (value_of items node name) [])

abbrev pub element_value : List Item → ℕ → List ℕ → ElementRow → Value
element_value items node tag Tag = Str tag
element_value items node tag (Attribute name) = attribute_value items node name
element_value items node tag (StyleFor state) = style_of node state

-- the rows of an element by a table
abbrev pub table_rows : List Item → ℕ → List ℕ → ElementTable → Rows
table_rows items node tag [] = []
table_rows items node tag (row ∷ table) =
    (row.0, element_value items node tag row.1) ∷ table_rows items node tag table

abbrev pub element_rows : List Item → ℕ → List ℕ → Rows
element_rows items node tag = table_rows items node tag element_table

abbrev pub own_rows : List Item → ℕ → List ℕ → Rows
own_rows items node tag = table_rows items node tag (own_table tag)

-- what the node is: an element, a text, or no node of the document, of which nothing can be read
unfoldable pub node_rows : List Item → ℕ → Rows
node_rows items node =
    option_map_or
    (λ tag. walk_rows items node ++ (element_rows items node tag ++ own_rows items node tag))
    (tag_of items node)
    (option_map_or (λ text. walk_rows items node ++ text_rows text) (text_of items node) [])

-- ---- the document and the current event

-- scripts see each event but a data event
abbrev pub is_seen : TheEvent → Bool
is_seen (events.DataEvent item) = false
is_seen event = true

-- the event that scripts see as the current one: a data event's handlers have none
abbrev pub seen_event : Option TheEvent → Option TheEvent
seen_event None = None
seen_event (Some event) = if is_seen event then Some event else None

abbrev pub document_rows : Focus → CurrentEvent → Rows
document_rows focus current =
    (codes "currentEvent", option_map_or (λ event. Host Event) (seen_event current.event) Null)
    ∷ (codes "currentFocus", node_value (number_of focus.focus)) ∷ []

abbrev pub count_value : ℕ → Value
count_value number = Number (Whole (pos number))

-- the number of a key
abbrev pub key_rows : ℕ → Rows
key_rows key = (codes "keyCode", count_value key) ∷ []

-- how a module changed, and the module that the item names, as its attribute says it
abbrev pub module_rows : List Item → ℕ → ℕ → Rows
module_rows items item status =
    (codes "status", count_value status)
    ∷ (codes "moduleRef", attribute_value items item (codes "module_ref")) ∷ []

-- the path of a component
abbrev pub component_text : ℕ → List ℕ
component_text component = codes "/" ++ hex_digits 2 component

-- the component of a message, its group, id and version, and the text of its private bytes
abbrev pub message_rows : ℕ → Message → Rows
message_rows component message =
    (codes "esRef", Str (component_text component))
    ∷ (codes "messageGroupId", count_value message.group)
    ∷ (codes "messageId", count_value message.id)
    ∷ (codes "messageVersion", count_value message.version)
    ∷ (codes "privateData", Str message.extra) ∷ []

-- what only events of some kinds have: those of keys, of modules and of messages
abbrev pub own_event_rows : List Item → TheEvent → Rows
own_event_rows items (events.KeyDown key) = key_rows key
own_event_rows items (events.KeyUp key) = key_rows key
own_event_rows items (events.Default key) = key_rows key
own_event_rows items (events.Updated item status) = module_rows items item status
own_event_rows items (events.Locked item status) = module_rows items item status
own_event_rows items (events.Fired item component message) = message_rows component message
own_event_rows items other = []

abbrev pub event_rows : List Item → CurrentEvent → Rows
event_rows items current =
    option_map_or
    (λ event. (codes "type", Str (name_of event))
    ∷ (codes "target", Host (Node current.target)) ∷ own_event_rows items event)
    (seen_event current.event) []

-- ---- styles

-- the property that scripts call so
abbrev pub property_named : List ℕ → Option Property
property_named name = find (λ property. is_same name (script_name_of property)) all_properties

-- the value that an element has for a property in a state, as a text
abbrev pub style_text : StyledTree → ℕ → State → Property → Value
style_text tree node state property =
    Str (printed property (styled_value tree node state property))

unfoldable pub style_read : StyledTree → ℕ → ℕ → List ℕ → Value
style_read tree node number name =
    option_map_or
    (λ state. option_map_or (style_text tree node state) (property_named name) Undefined)
    (if is_some (tag_of tree.items node) then state_of_number number else None) Undefined

-- ---- all references; the browser and its registers aren't read here

unfoldable pub read_value : Parts → HostRef → List ℕ → Value
read_value parts Document name = read_in (document_rows parts.tree.focus parts.event) name
read_value parts Event name = read_in (event_rows parts.tree.items parts.event) name
read_value parts (Node node) name = read_in (node_rows parts.tree.items node) name
read_value parts (Style node number) name = style_read parts.tree node number name
read_value parts other name = Undefined

-- only styles are asked for what isn't kept of a document as it is
abbrev pub is_style : HostRef → Bool
is_style (Style node number) = true
is_style other = false
