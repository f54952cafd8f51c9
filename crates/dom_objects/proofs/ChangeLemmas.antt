-- What a write to a node leaves of what styles come from, and one to a style of the nodes.
use Rattle.std.proofs.Common.{◌≡◌, ℕ, Bool, true, false, cond, List, Option, Some, None, refl}
use Rattle.std.specs.Prelude.{Result, Ok, Err, OnOk, is_some, if◌then◌else◌}
use Rattle.std.specs.Option.{option_map_or}
use Rattle.dom_tree.specs.Items.{Item, tag_of, text_of}
use Rattle.style_cascade.specs.Cascade.{Sources}
use Rattle.style_cascade.specs.declared.states.State.{State}
use Rattle.style_reader.specs.Values.{value_of}
use Rattle.style_reader.specs.declared.properties.Property.{Property}
use Rattle.style_reader.specs.declared.properties.StyleValue.{StyleValue}
use Rattle.bml_bytes.specs.Words.{is_same}
use Rattle.std.specs.Prelude.{codes}
use Rattle.dom_objects.specs.Parts.{state_of_number}
use Rattle.dom_objects.specs.Reads.{property_named}
use Rattle.dom_objects.specs.Writes.{changed_items, changed_sources, element_change, is_written, node_change, property_change, style_change, text_change}
use Rattle.dom_objects.specs.Writes.Change.{ChangesAttribute, ChangesStyle, ChangesText, NoChange}

pub on_ok : {A E P : Type 0} (r : Result A E) → P → OnOk r P
on_ok (Ok x) h = h
on_ok (Err e) h = tt

pub sources-kept : (items : List Item) (node : ℕ) (name text : List ℕ) (sources : Sources) → changed_sources (node_change items node name text) sources ≡ sources
unfolding node_change
sources-kept items node name text sources = by (tag_of items node) (is_some (text_of items node))
  where
    attribute : (b : Bool) → changed_sources (cond b (ChangesAttribute node name text) NoChange) sources ≡ sources
    attribute true = refl
    attribute false = refl

    data_of : (b : Bool) → changed_sources (cond b (ChangesText node text) NoChange) sources ≡ sources
    data_of true = refl
    data_of false = refl

    by : (tag : Option (List ℕ)) (is_text : Bool) → changed_sources (option_map_or (λ t. element_change node t name text) tag (if is_text then text_change node name text else NoChange)) sources ≡ sources
    by (Some tag) is_text = attribute (is_written tag name)
    by None true = data_of (is_same name (codes "data"))
    by None false = refl

pub items-kept : (items : List Item) (node number : ℕ) (name text : List ℕ) → changed_items (style_change items node number name text) items ≡ items
unfolding style_change
items-kept items node number name text = by (if is_some (tag_of items node) then state_of_number number else None) (property_named name)
  where
    value : (state : State) (property : Property) (value : Option StyleValue) → changed_items (option_map_or (ChangesStyle node state property) value NoChange) items ≡ items
    value state property None = refl
    value state property (Some given) = refl

    by : (state : Option State) (property : Option Property) → changed_items (option_map_or (λ s. option_map_or (property_change node s text) property NoChange) state NoChange) items ≡ items
    by None property = refl
    by (Some state) None = refl
    by (Some state) (Some property) = value state property (value_of property text)
