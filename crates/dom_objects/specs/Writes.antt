-- What scripts change by writing to nodes and styles (after the DOM interfaces of BML, ARIB STD-B24
-- volume 2, in this project's own profile). Each other name is read-only or unknown, and its write
-- changes nothing.
use Rattle.std.specs.Prelude.{ℕ, ◌&&◌, Bool, true, false, is_some, if◌then◌else◌, List, None, codes}
use Rattle.std.specs.Option.{option_map_or}
use Rattle.bml_bytes.specs.Words.{is_same}
use Rattle.dom_tree.specs.Items.{Item, changed_at, tag_of, text_of, with_attribute, with_text}
use Rattle.style_reader.specs.Values.{value_of}
use Rattle.style_reader.specs.declared.properties.Property.{Property}
use Rattle.style_reader.specs.declared.properties.StyleValue.{StyleValue}
use Rattle.style_cascade.specs.Cascade.{Sources, with_write}
use Rattle.style_cascade.specs.StyledTrees.{StyledTree}
use Rattle.style_cascade.specs.declared.states.State.{State}
use Rattle.es_values.specs.declared.values.HostRef.{HostRef}
use Rattle.es_values.specs.declared.values.HostRef.TheVariants.{Node, Style}
use Rattle.dom_objects.specs.Parts.{state_of_number}
use Rattle.dom_objects.specs.Reads.{is_input_tag, is_object_tag, property_named}

-- nothing; the text of a text node; an attribute of an element; a property of an element's style
-- in a state
pub data Change : Type 0 where
  NoChange : Change
  ChangesText : (node : ℕ) → (text : List ℕ) → Change
  ChangesAttribute : (node : ℕ) → (name value : List ℕ) → Change
  ChangesStyle : (node : ℕ) → (state : State) → (property : Property) → (value : StyleValue)
      → Change

-- the attribute that a name writes to: `data` of an object, `value` of an input
abbrev pub is_written : List ℕ → List ℕ → Bool
is_written tag name =
    if is_object_tag tag then is_same name (codes "data")
    else is_input_tag tag && is_same name (codes "value")

abbrev pub element_change : ℕ → List ℕ → List ℕ → List ℕ → Change
element_change node tag name text =
    if is_written tag name then ChangesAttribute node name text else NoChange

abbrev pub text_change : ℕ → List ℕ → List ℕ → Change
text_change node name text =
    if is_same name (codes "data") then ChangesText node text else NoChange

unfoldable pub node_change : List Item → ℕ → List ℕ → List ℕ → Change
node_change items node name text =
    option_map_or (λ tag. element_change node tag name text) (tag_of items node)
    (if is_some (text_of items node) then text_change node name text else NoChange)

-- a text that is no value of the property changes nothing
abbrev pub property_change : ℕ → State → List ℕ → Property → Change
property_change node state text property =
    option_map_or (ChangesStyle node state property) (value_of property text) NoChange

unfoldable pub style_change : List Item → ℕ → ℕ → List ℕ → List ℕ → Change
style_change items node number name text =
    option_map_or
    (λ state. option_map_or (property_change node state text) (property_named name) NoChange)
    (if is_some (tag_of items node) then state_of_number number else None) NoChange

-- what a write of a text under a name of a reference changes
unfoldable pub change_of : List Item → HostRef → List ℕ → List ℕ → Change
change_of items (Node node) name text = node_change items node name text
change_of items (Style node number) name text = style_change items node number name text
change_of items other name text = NoChange

-- ---- what it makes of the nodes, and of what styles come from

abbrev pub changed_items : Change → List Item → List Item
changed_items (ChangesText node text) items = changed_at (with_text text) node items
changed_items (ChangesAttribute node name value) items =
    changed_at (with_attribute name value) node items
changed_items other items = items

abbrev pub changed_sources : Change → Sources → Sources
changed_sources (ChangesStyle node state property value) sources =
    with_write node state property value sources
changed_sources other sources = sources

-- the focus stays
abbrev pub changed_tree : Change → StyledTree → StyledTree
changed_tree change tree =
    record tree {
      items = changed_items change tree.items;
      sources = changed_sources change tree.sources;
    }

-- only this change is one of what styles come from
abbrev pub is_of_style : Change → Bool
is_of_style (ChangesStyle node state property value) = true
is_of_style other = false
