-- A device of the proofs: what the builder of a tree stands for.
use Rattle.std.specs.Prelude.{◌≡◌, ℕ, Bool, true, false, List, [], ◌++◌, Option, Some, None}
use Rattle.dom_tree.specs.Items.{Attribute, Item, Content}
use Rattle.dom_tree.specs.Items.Content.{Element, Text}
use Rattle.dom_tree.specs.Walks.{KeepsPlaces}
use Rattle.dom_tree.specs.declared.node_ids.NodeId.{NodeId}
use Rattle.bml_reader.specs.devices.Machine.{NodesSoFar}
use Rattle.bml_reader.specs.devices.Nodes.{AreOpen, numbers_in}

abbrev pub items_or_none : Option (List Item) → List Item
items_or_none None = []
items_or_none (Some items) = items

abbrev pub nodes_by : Bool → Option (List Item) → List NodeId → Option NodesSoFar
nodes_by true tree path = None
nodes_by false tree path = Some (record { items = items_or_none tree; path = numbers_in path })

-- the open elements are on the path to the last node, and a tree has a root
abbrev pub IsGrown : Option (List Item) → List ℕ → Type 0
IsGrown None path = path ≡ []
IsGrown (Some items) path = AreOpen items path

abbrev pub IsBuilding : Bool → Option (List Item) → List NodeId → Type 0
IsBuilding true tree path = Unit {0}
IsBuilding false tree path = IsGrown tree (numbers_in path)

abbrev pub put_attributes : List Attribute → Content → Content
put_attributes attributes (Element tag before) = Element tag (before ++ attributes)
put_attributes attributes (Text text) = Text text

-- the same element with these attributes behind its own; a text stays as it is
abbrev pub with_attributes : List Attribute → Item → Item
with_attributes attributes item =
    record { parent = item.parent; content = put_attributes attributes item.content }

-- the nodes stay where they are
abbrev pub KeepsPlacesOf : Option (List Item) → Option (List Item) → Type 0
KeepsPlacesOf None None = Unit {0}
KeepsPlacesOf None (Some new) = ⊥
KeepsPlacesOf (Some old) None = ⊥
KeepsPlacesOf (Some old) (Some new) = KeepsPlaces old new
