-- What is wrong with a document that is in the grammar. The limits are this project's own.
use Rattle.std.specs.Prelude.{◌≡◌, ◌≢◌, ℕ, ◌+◌, ◌<◌, max, List, codes as ascii}
use Rattle.dom_tree.specs.Items.{Item}
use Rattle.dom_tree.specs.Walks.{most_nodes}
use Rattle.dom_tree.specs.Nested.{Nested, node_count, items_of}
use Rattle.dom_tree.specs.Nested.Nested.{NoNodes, ElementNode, TextNode}
use Rattle.bml_reader.specs.Grammar.{Reads}
use Rattle.bml_reader.specs.declared.faults.DocFault.{DocFault}
use Rattle.bml_reader.specs.declared.faults.DocFault.TheVariants.{Malformed, WrongRoot, TooDeep, TooManyNodes, NoMemory}

-- the most levels of elements, the root's being the first
abbrev pub most_levels : ℕ
most_levels = 64

-- the number of levels of elements
abbrev pub levels : Nested → ℕ
levels NoNodes = 0
levels (ElementNode _ _ children following) = max (1 + levels children) (levels following)
levels (TextNode _ following) = levels following

-- the root is another element than `bml`
abbrev pub HasWrongRoot : Nested → Type 0
HasWrongRoot NoNodes = ⊥
HasWrongRoot (ElementNode tag _ _ _) = tag ≢ ascii "bml"
HasWrongRoot (TextNode _ _) = ⊥

-- an element stands at a level past the last one
abbrev pub IsTooDeep : Nested → Type 0
IsTooDeep tree = most_levels < levels tree

-- there are more elements and texts than may be
abbrev pub HasTooManyNodes : Nested → Type 0
HasTooManyNodes tree = most_nodes < node_count tree

-- the bytes are a document without a fault, and these are its nodes in document order
pub record ReadsWell (bytes : List ℕ) (items : List Item) : Type 0 where
  pub tree : Nested
  pub reads : Reads bytes tree
  pub root : HasWrongRoot tree → ⊥
  pub depth : IsTooDeep tree → ⊥
  pub count : HasTooManyNodes tree → ⊥
  pub nodes : items ≡ items_of tree

pub record ReadsWrongRoot (bytes : List ℕ) : Type 0 where
  pub tree : Nested
  pub reads : Reads bytes tree
  pub root : HasWrongRoot tree

pub record ReadsTooDeep (bytes : List ℕ) : Type 0 where
  pub tree : Nested
  pub reads : Reads bytes tree
  pub root : HasWrongRoot tree → ⊥
  pub depth : IsTooDeep tree

pub record ReadsTooManyNodes (bytes : List ℕ) : Type 0 where
  pub tree : Nested
  pub reads : Reads bytes tree
  pub root : HasWrongRoot tree → ⊥
  pub depth : IsTooDeep tree → ⊥
  pub count : HasTooManyNodes tree

-- the fault is the first one that the bytes have
abbrev pub HasFault : List ℕ → DocFault → Type 0
HasFault bytes Malformed = (tree : Nested) → Reads bytes tree → ⊥
HasFault bytes WrongRoot = ReadsWrongRoot bytes
HasFault bytes TooDeep = ReadsTooDeep bytes
HasFault bytes TooManyNodes = ReadsTooManyNodes bytes
HasFault bytes NoMemory = Unit {0}
