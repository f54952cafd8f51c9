-- A device of the proofs: what the nodes that the code keeps stand for. No public clause speaks of
-- it.
use Rattle.std.specs.Prelude.{◌≡◌, ℕ, ◌<◌, List, Option, Some, None, length, slice_get, map, unwrap_or, IfSome}
use Rattle.indexmap.specs.IndexMap.{get}
use Rattle.std.specs.HashMap.{HashMap}
use Rattle.dom_tree.specs.NodeNumbers.{number_of}
use Rattle.bml_bytes.specs.Words.{is_same}
use Rattle.dom_tree.specs.Items.{Attribute, Item, Content, IsElement, changed_at}
use Rattle.dom_tree.specs.Items.Content.{Element, Text}
use Rattle.dom_tree.specs.Walks.{first, last, after, before, children_of, siblings_of, node_of_id, IsTree}
use Rattle.dom_tree.specs.declared.node_ids.NodeId.{NodeId}
use Rattle.dom_tree.specs.declared.nodes.Node.{Node}
use Rattle.dom_tree.specs.declared.nodes.NodeKind.{NodeKind}
use Rattle.dom_tree.specs.declared.nodes.NodeKind.TheVariants.{Element as ElementKind, Text as TextKind}

-- an attribute, from the entry of the map that holds it
abbrev pub attribute_of_entry : List ℕ × List ℕ → Attribute
attribute_of_entry entry = record { name = entry.0; value = entry.1 }

abbrev pub attributes_in_map : {S : Type 0} → HashMap (List ℕ) (List ℕ) S → List Attribute
attributes_in_map attributes = map attribute_of_entry attributes.entries

abbrev pub content_of : NodeKind → Content
content_of (ElementKind element) = Element element.tag (attributes_in_map element.attributes)
content_of (TextKind text) = Text text

abbrev pub item_of : Node → Item
item_of node = record { parent = number_of node.parent; content = content_of node.kind }

abbrev pub items_in : List Node → List Item
items_in nodes = map item_of nodes

-- the neighbours of a node
pub record Links : Type 0 where
  pub first_child : Option ℕ
  pub last_child : Option ℕ
  pub next_sibling : Option ℕ
  pub previous_sibling : Option ℕ

abbrev pub links_of : Node → Links
links_of node =
    record {
      first_child = number_of node.first_child;
      last_child = number_of node.last_child;
      next_sibling = number_of node.next_sibling;
      previous_sibling = number_of node.previous_sibling;
    }

abbrev pub links_in : List Node → List Links
links_in nodes = map links_of nodes

-- the neighbours that the node of this number has in the tree
abbrev pub links_at : List Item → ℕ → Links
links_at items node =
    record {
      first_child = first (children_of items node);
      last_child = last (children_of items node);
      next_sibling = after (siblings_of items node) node;
      previous_sibling = before (siblings_of items node) node;
    }

-- the node of this number leads to its neighbours in the tree
pub record LeadsTo (items : List Item) (number : ℕ) (node : Node) : Type 0 where
  pub first_child : number_of node.first_child ≡ first (children_of items number)
  pub last_child : number_of node.last_child ≡ last (children_of items number)
  pub next_sibling : number_of node.next_sibling ≡ after (siblings_of items number) number
  pub previous_sibling : number_of node.previous_sibling ≡ before (siblings_of items number) number

-- what the node of this number leads to is in the tree, and stands there before or behind it
pub record LeadsInside (items : List Item) (number : ℕ) (node : Node) : Type 0 where
  pub parent : IfSome node.parent (λ up. (up.0 < number) × IsElement items up.0)
  pub first_child : IfSome node.first_child (λ child. (number < child.0) × (child.0 < length items))
  pub last_child : IfSome node.last_child (λ child. (number < child.0) × (child.0 < length items))
  pub next_sibling : IfSome node.next_sibling (λ next. (number < next.0) × (next.0 < length items))
  pub previous_sibling : IfSome node.previous_sibling (λ previous. previous.0 < number)

-- each node's links are those that it has in the tree
pub record AreLinked (items : List Item) (links : List Links) : Type 0 where
  pub each : (node : ℕ) → node < length items → slice_get links node ≡ Some (links_at items node)

-- the map gives for each id the first node that has it
abbrev pub IsIndexOf : {S : Type 0} → HashMap (List ℕ) NodeId S → List Item → Type 0
IsIndexOf ids items = (id : List ℕ) → number_of (get is_same ids id) ≡ node_of_id items id

-- what a tree keeps stands for a tree: the nodes lead to each other, and the map leads from ids to
-- nodes
pub record IsKept {S : Type 0} (nodes : List Node) (ids : HashMap (List ℕ) NodeId S) : Type 0 where
  pub tree : IsTree (items_in nodes)
  pub linked : AreLinked (items_in nodes) (links_in nodes)
  pub indexed : IsIndexOf ids (items_in nodes)

-- the links with a new last child, and with a new next sibling
abbrev pub with_last_child : ℕ → Links → Links
with_last_child child links =
    record {
      first_child = Some (unwrap_or links.first_child child);
      last_child = Some child;
      next_sibling = links.next_sibling;
      previous_sibling = links.previous_sibling;
    }

abbrev pub with_next_sibling : ℕ → Links → Links
with_next_sibling next links =
    record {
      first_child = links.first_child;
      last_child = links.last_child;
      next_sibling = Some next;
      previous_sibling = links.previous_sibling;
    }

-- the links once a node hangs last in an element, behind the child that was its last
abbrev pub hung_last : ℕ → ℕ → Option ℕ → List Links → List Links
hung_last node up None links = changed_at (with_last_child node) up links
hung_last node up (Some previous) links =
    changed_at (with_next_sibling node) previous (changed_at (with_last_child node) up links)
