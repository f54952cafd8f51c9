-- Where one node stands to the others: children, siblings, the path to the root, and the node of an
-- id (DOM level 1: Node and Document, in this project's own form).
use Rattle.std.specs.Prelude.{◌≡◌, ℕ, zero, suc, ◌+◌, ◌-◌, ◌<◌, ◌≤◌, ◌↔◌, List, [], ◌∷◌, Option, Some, None, Bool, if◌then◌else◌, ◌==◌, length, take, nat_eq, Contains, IsSomeAnd}
use Rattle.std.specs.Option.{option_map_or, option_eq}
use Rattle.dom_tree.specs.Items.{Item, parent_of, tag_of, IsElement, has_id}

-- the places of the elements that pass the test, ascending, where the first element has this place
abbrev pub places_from : {A : Type 0} → (A → Bool) → ℕ → List A → List ℕ
places_from test place [] = []
places_from test place (x ∷ xs) =
    if test x then place ∷ places_from test (place + 1) xs else places_from test (place + 1) xs

abbrev pub places : {A : Type 0} → (A → Bool) → List A → List ℕ
places test xs = places_from test 0 xs

-- the first and the last of some numbers
abbrev pub first : List ℕ → Option ℕ
first [] = None
first (x ∷ _) = Some x

abbrev pub last : List ℕ → Option ℕ
last [] = None
last (x ∷ []) = Some x
last (_ ∷ y ∷ xs) = last (y ∷ xs)

-- the number that follows n, and the one that it follows
abbrev pub after : List ℕ → ℕ → Option ℕ
after [] n = None
after (x ∷ xs) n = if x == n then first xs else after xs n

abbrev pub before : List ℕ → ℕ → Option ℕ
before [] n = None
before (x ∷ []) n = None
before (x ∷ y ∷ xs) n = if y == n then Some x else before (y ∷ xs) n

-- the node hangs in that element, or in nothing
abbrev pub hangs_in : Option ℕ → Item → Bool
hangs_in parent item = option_eq nat_eq item.parent parent

-- the nodes that hang in an element, in document order
abbrev pub children_of : List Item → ℕ → List ℕ
children_of items node = places (hangs_in (Some node)) items

-- the nodes that hang where this one does, itself among them, in document order
abbrev pub siblings_of : List Item → ℕ → List ℕ
siblings_of items node = places (hangs_in (parent_of items node)) items

-- the node, what it hangs in, and so on, at most so many of them
abbrev pub path_within : ℕ → List Item → ℕ → List ℕ
path_within zero items node = []
path_within (suc count) items node =
    node ∷ option_map_or (path_within count items) (parent_of items node) []

-- the path from the node to the root; each node hangs in one of a smaller number, so that it is no
-- longer
abbrev pub path_of : List Item → ℕ → List ℕ
path_of items node = path_within (node + 1) items node

-- The nodes of these numbers, from the node on, are those that stand in it at any depth, itself
-- among them: the node is on their paths to the root, and on no other path.
abbrev pub IsEndOf : List Item → ℕ → ℕ → Type 0
IsEndOf items node end =
    (other : ℕ) → other < length items
    → Contains (path_of items other) node ↔ ((node ≤ other) × (other < end))

-- the node is on the path from the last node to the root, so that what is added to it stands last
-- in document order
abbrev pub IsOpen : List Item → ℕ → Type 0
IsOpen items node = Contains (path_of items (length items - 1)) node

-- the first node in document order that has the id
abbrev pub node_of_id : List Item → List ℕ → Option ℕ
node_of_id items id = first (places (has_id id) items)

-- the most nodes of a document; this project's own limit
abbrev pub most_nodes : ℕ
most_nodes = 16384

-- what a node behind the root hangs in: an element of a smaller number on the path to the root from
-- the node in front of it
abbrev pub HangsBefore : List Item → ℕ → ℕ → Type 0
HangsBefore items node up = (up < node) × IsElement items up × IsOpen (take node items) up

-- The items are the tree of a document: the root is an element that hangs in nothing, and each
-- other node hangs in an element on the path from the node in front of it to the root.
pub record IsTree (items : List Item) : Type 0 where
  pub root : IsElement items 0 × (parent_of items 0 ≡ None)
  pub others : (node : ℕ) → 0 < node → node < length items →
      IsSomeAnd (parent_of items node) (HangsBefore items node)
  pub count : length items ≤ most_nodes

-- More nodes stand behind the old ones, the first of them last in that element: the old nodes keep
-- their tags and their paths to the root, and what the new one hangs in is open, and the new one
-- too.
pub record Extends (old new : List Item) (up : ℕ) : Type 0 where
  pub tags : (node : ℕ) → node < length old → tag_of new node ≡ tag_of old node
  pub paths : (node : ℕ) → node < length old → path_of new node ≡ path_of old node
  pub path : path_of new (length old) ≡ length old ∷ path_of old up
  pub open_still : (node : ℕ) → Contains (path_of old up) node → IsOpen new node
  pub opened : IsOpen new (length old)

-- The new nodes are the old ones with other texts or attributes: tags, parents, children and paths
-- to the root stay.
pub record KeepsPlaces (old new : List Item) : Type 0 where
  pub count : length new ≡ length old
  pub tags : (node : ℕ) → tag_of new node ≡ tag_of old node
  pub parents : (node : ℕ) → parent_of new node ≡ parent_of old node
  pub children : (node : ℕ) → children_of new node ≡ children_of old node
  pub paths : (node : ℕ) → path_of new node ≡ path_of old node
  pub open_still : (node : ℕ) → IsOpen old node → IsOpen new node
