-- A device of the proofs: the tables that styles keep, and when they are those of a tree.
use Rattle.std.specs.Prelude.{◌≡◌, ◌≢◌, ◌⊎◌, ℕ, ◌*◌, ◌<◌, ◌≤◌, List, [], ◌∷◌, Option, Some, None, true, length, if◌then◌else◌, Contains}
use Rattle.std.specs.Option.{option_map_or, option_or}
use Rattle.dom_tree.specs.Items.{Item, parent_of}
use Rattle.dom_tree.specs.Walks.{IsEndOf, path_of}
use Rattle.style_reader.specs.Properties.{initial_of, is_inherited}
use Rattle.style_reader.specs.declared.properties.Property.{Property}
use Rattle.style_reader.specs.declared.properties.StyleValue.{StyleValue}
use Rattle.style_reader.specs.declared.rules.Rule.{Rule}
use Rattle.style_cascade.specs.Cascade.{Sources, own_value, said_value}
use Rattle.style_cascade.specs.Candidates.{declared_value, inline_rules}
use Rattle.style_cascade.specs.devices.Tables.{cell_of, writes_in}
use Rattle.style_cascade.specs.declared.states.State.{State}
use Rattle.style_cascade.specs.declared.states.State.TheVariants as states
use Rattle.style_cascade.specs.declared.subjects.Subject.{Subject}
use Rattle.style_cascade.specs.declared.subjects.Styled.{Styled}

-- what rules and inline texts say of each node, what was written, and the values that were worked
-- out
pub record KeptTables : Type 0 where
  pub said : List (Option StyleValue)
  pub written : List (Option StyleValue)
  pub values : List (Option StyleValue)

abbrev pub styled_by : Subject → Styled
styled_by subject = record { subject = subject; inline = inline_rules subject }

-- what is said of an element
abbrev pub said_of : List Rule → State → Property → Styled → Option StyleValue
said_of rules state property styled =
    option_or (declared_value styled.inline styled.subject state property)
    (declared_value rules styled.subject state property)

-- what is said of a node by the tables
abbrev pub kept_value : KeptTables → ℕ → State → Property → Option StyleValue
kept_value kept node state property =
    option_or (cell_of kept.written node state property)
    (option_or (cell_of kept.written node states.Normal property)
    (cell_of kept.said node state property))

-- the element whose value is that of this one, where nothing is said of this one
unfoldable pub element_around : List Item → ℕ → Property → Option ℕ
element_around items node property =
    if is_inherited property then parent_of items node else None

-- what a node has of which nothing is said itself, as far as that is kept
unfoldable pub value_around
    : List Item → (ℕ → State) → List (Option StyleValue) → ℕ → Property → Option StyleValue
value_around items present values node property =
    option_map_or (λ up. cell_of values up (present up) property)
    (element_around items node property) (Some (initial_of property))

-- They are those of the tree and of these sources. A value that is kept is what is said of the node
-- itself, or that of the element around it, which is kept too.
pub record IsKept (items : List Item) (present : ℕ → State) (sources : Sources)
    (kept : KeptTables) : Type 0 where
  pub room : length kept.written ≡ 51 * length items
  pub room_kept : length kept.values ≡ 51 * length items
  pub writes : sources.writes ≡ writes_in kept.written
  pub said : (node : ℕ) (state : State) (property : Property) → node < length items →
      cell_of kept.said node state property
      ≡ said_value items sources.rules node state property
  pub values : (node : ℕ) (state : State) (property : Property) (value : StyleValue) →
      cell_of kept.values node state property ≡ Some value →
      option_or (own_value items sources node state property)
      (value_around items present kept.values node property) ≡ Some value
  pub paths : (node : ℕ) → path_of items node
      ≡ node ∷ option_map_or (path_of items) (parent_of items node) []
  pub parents : (node up : ℕ) → parent_of items node ≡ Some up →
      (up < node) × (node < length items)

-- ---- what is forgotten

-- nothing of the property was kept of the node, and all that is kept of the property stays
pub record StaysKept (old new : List (Option StyleValue)) (node : ℕ) (property : Property)
    : Type 0 where
  pub none : (state : State) → cell_of old node state property ≡ None
  pub same : (other : ℕ) (state : State) →
      cell_of new other state property ≡ cell_of old other state property

-- of the nodes in this one, from the first one on, nothing of the property is kept any more
pub record IsForgotten (items : List Item) (old new : List (Option StyleValue))
    (node : ℕ) (property : Property) (first : ℕ) : Type 0 where
  pub end : ℕ
  pub is_end : IsEndOf items node end
  pub behind : node < end
  pub within : end ≤ length items
  pub inside : (other : ℕ) (state : State) → first ≤ other → other < end →
      cell_of new other state property ≡ None
  pub outside : (other : ℕ) (state : State) → ((first ≤ other) × (other < end) → ⊥) →
      cell_of new other state property ≡ cell_of old other state property

abbrev pub ForgetsBelow
    : List Item → List (Option StyleValue) → List (Option StyleValue) → ℕ → Property → ℕ → Type 0
ForgetsBelow items old new node property first =
    StaysKept old new node property ⊎ IsForgotten items old new node property first

-- all that is kept of other properties stays
abbrev pub KeepsOthers : List (Option StyleValue) → List (Option StyleValue) → Property → Type 0
KeepsOthers old new property =
    (node : ℕ) (state : State) (of : Property) → of ≢ property →
    cell_of new node state of ≡ cell_of old node state of

-- the property is forgotten in the node, and nothing else; what is kept of it hangs on nothing that
-- is forgotten
pub record Unsets (items : List Item) (old new : List (Option StyleValue)) (node : ℕ)
    (property : Property) : Type 0 where
  pub long : length new ≡ length old
  pub others : KeepsOthers old new property
  pub fewer : (other : ℕ) (state : State) (value : StyleValue) →
      cell_of new other state property ≡ Some value →
      cell_of old other state property ≡ Some value
  pub here : (state : State) → cell_of new node state property ≡ None
  pub outside : (other : ℕ) (state : State) → other < length items →
      (Contains (path_of items other) node → ⊥) →
      cell_of new other state property ≡ cell_of old other state property
  pub above : is_inherited property ≡ true → (other up : ℕ) (at before : State)
      (value was : StyleValue) →
      path_of items other ≡ other ∷ option_map_or (path_of items) (parent_of items other) [] →
      parent_of items other ≡ Some up → up < other → other < length items →
      cell_of new other at property ≡ Some value →
      cell_of old up before property ≡ Some was →
      cell_of new up before property ≡ Some was
