-- A document's tree as nested lists of elements and texts, and its nodes in document order (DOM
-- level 1, Node; the list is this project's own form).
use Rattle.std.specs.Prelude.{ℕ, ◌+◌, List, [], ◌∷◌, ◌++◌, Option, Some, None}
use Rattle.dom_tree.specs.Items.{Attribute, Item}
use Rattle.dom_tree.specs.Items.Content.{Element, Text}

-- a list of nodes: nothing; an element with its tag, its attributes in the order written and its
-- list of children, and the nodes behind it; or a text and the nodes behind it
pub data Nested : Type 0 where
  NoNodes : Nested
  ElementNode : (tag : List ℕ) → (attributes : List Attribute) → (children following : Nested)
      → Nested
  TextNode : (text : List ℕ) → (following : Nested) → Nested

-- the number of nodes, at every depth
abbrev pub node_count : Nested → ℕ
node_count NoNodes = 0
node_count (ElementNode _ _ children following) = 1 + node_count children + node_count following
node_count (TextNode _ following) = 1 + node_count following

-- the nodes in document order, where the list hangs in that element and its first node has this
-- number
abbrev pub items_from : Option ℕ → ℕ → Nested → List Item
items_from parent number NoNodes = []
items_from parent number (ElementNode tag attributes children following) =
    record { parent = parent; content = Element tag attributes }
    ∷ (items_from (Some number) (number + 1) children
    ++ items_from parent (number + 1 + node_count children) following)
items_from parent number (TextNode text following) =
    record { parent = parent; content = Text text } ∷ items_from parent (number + 1) following

-- the nodes of a document in document order, each with the number of the element that it hangs in
abbrev pub items_of : Nested → List Item
items_of nested = items_from None 0 nested
