-- A device of the proofs: a table of values, for each node, state and property one, or none.
use Rattle.std.specs.Prelude.{◌≡◌, ◌||◌, ℕ, Bool, zero, suc, ◌+◌, ◌*◌, ◌<◌, ◌≤◌, List, [], ◌∷◌, ◌++◌, Option, Some, None, is_some, length, map, slice_get, IsTrue}
use Rattle.std.specs.Option.{option_flatten}
use Rattle.style_reader.specs.Properties.{all_properties}
use Rattle.style_reader.specs.Values.{fits}
use Rattle.style_reader.specs.declared.properties.Property.{Property}
use Rattle.style_reader.specs.declared.properties.StyleValue.{StyleValue}
use Rattle.style_cascade.specs.Candidates.{property_place}
use Rattle.style_cascade.specs.Writes.{Cell, StyleWrites, cell, state_place, with_value}
use Rattle.style_cascade.specs.declared.states.State.{State}
use Rattle.style_cascade.specs.declared.states.State.TheVariants as states

-- a node takes 51 places, 17 for each state
unfoldable pub cell_place : ℕ → State → Property → ℕ
cell_place node state property = 51 * node + (17 * state_place state + property_place property)

unfoldable pub cell_of : List (Option StyleValue) → ℕ → State → Property → Option StyleValue
cell_of cells node state property = option_flatten (slice_get cells (cell_place node state property))

-- each of the values is one of its property
pub record AreFitting (cells : List (Option StyleValue)) : Type 0 where
  pub each : (node : ℕ) (state : State) (property : Property) (value : StyleValue)
      → cell_of cells node state property ≡ Some value → IsTrue (fits property value)

-- the node has a value of the property in some state
unfoldable pub has_value : List (Option StyleValue) → ℕ → Property → Bool
has_value cells node property =
    (is_some (cell_of cells node states.Normal property)
    || is_some (cell_of cells node states.Focus property))
    || is_some (cell_of cells node states.Active property)

-- these nodes have no value of the property in the state any more, and all else is as it was
pub record ForgetsIn (old new : List (Option StyleValue)) (state : State) (property : Property)
    (first end : ℕ) : Type 0 where
  pub long : length new ≡ length old
  pub inside : (node : ℕ) → first ≤ node → node < end → cell_of new node state property ≡ None
  pub others : (node : ℕ) (at : State) (of : Property)
      → ((at ≡ state) × (of ≡ property) × (first ≤ node) × (node < end) → ⊥)
      → cell_of new node at of ≡ cell_of old node at of

-- these nodes have no value of the property any more, and all else is as it was
pub record Forgets (old new : List (Option StyleValue)) (property : Property) (first end : ℕ)
    : Type 0 where
  pub long : length new ≡ length old
  pub inside : (node : ℕ) (state : State) → first ≤ node → node < end
      → cell_of new node state property ≡ None
  pub others : (node : ℕ) (state : State) (of : Property)
      → ((of ≡ property) × (first ≤ node) × (node < end) → ⊥)
      → cell_of new node state of ≡ cell_of old node state of

-- ---- the finite map that a table stands for

abbrev pub node_cells : ℕ → List Cell
node_cells node =
    map (cell node states.Normal) all_properties
    ++ (map (cell node states.Focus) all_properties
    ++ map (cell node states.Active) all_properties)

-- those of the first nodes
unfoldable pub first_cells : ℕ → List Cell
first_cells zero = []
first_cells (suc count) = node_cells count ++ first_cells count

abbrev pub with_read : Option StyleValue → Cell → StyleWrites → StyleWrites
with_read None at writes = writes
with_read (Some value) at writes = with_value at value writes

-- what the table has of these cells
unfoldable pub writes_among : List (Option StyleValue) → List Cell → StyleWrites
writes_among cells [] = []
writes_among cells (at ∷ more) =
    with_read (cell_of cells at.node at.state at.property) at (writes_among cells more)

unfoldable pub writes_in : List (Option StyleValue) → StyleWrites
writes_in cells = writes_among cells (first_cells (length cells))
