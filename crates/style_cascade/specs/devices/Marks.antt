-- A device of the proofs: marks beside a table of values, one for each cell, which tells whether
-- the cell's value is kept. For each state and property the marks of all nodes follow each other.
use Rattle.std.specs.Prelude.{◌≡◌, ℕ, ◌+◌, ◌*◌, ◌/◌, ◌%◌, ◌<◌, ◌≤◌, Bool, false, List, [], ◌∷◌, Option, None, get_or, length, if◌then◌else◌}
use Rattle.style_reader.specs.declared.properties.Property.{Property}
use Rattle.style_reader.specs.declared.properties.StyleValue.{StyleValue}
use Rattle.style_cascade.specs.devices.Tables.{cell_place}
use Rattle.style_cascade.specs.declared.states.State.{State}

-- the place of a cell's mark, where there are so many nodes
unfoldable pub mark_place : ℕ → ℕ → State → Property → ℕ
mark_place nodes node state property = cell_place 0 state property * nodes + node

-- the same for the cell at a place of the table
unfoldable pub mark_of : ℕ → ℕ → ℕ
mark_of nodes place = (place % 51) * nodes + place / 51

abbrev pub has_mark : List Bool → ℕ → Bool
has_mark marks place = get_or marks place false

abbrev pub value_if : Bool → Option StyleValue → Option StyleValue
value_if marked value = if marked then value else None

-- the cells from a place on, each with its value if it has its mark
unfoldable pub marked_from
    : ℕ → List Bool → ℕ → List (Option StyleValue) → List (Option StyleValue)
marked_from nodes marks place [] = []
marked_from nodes marks place (value ∷ more) =
    value_if (has_mark marks (mark_of nodes place)) value
    ∷ marked_from nodes marks (place + 1) more

-- what is kept: the values that have their marks
abbrev pub marked_cells : ℕ → List Bool → List (Option StyleValue) → List (Option StyleValue)
marked_cells nodes marks cells = marked_from nodes marks 0 cells

-- there are a cell and a mark for each node, state and property
pub record AreMarked (nodes : ℕ) (marks : List Bool) (cells : List (Option StyleValue)) : Type 0 where
  pub cell_count : length cells ≡ 51 * nodes
  pub mark_count : length marks ≡ 51 * nodes

-- the marks of these places are taken away, and all others are as they were
pub record Unmarks (old new : List Bool) (from end : ℕ) : Type 0 where
  pub long : length new ≡ length old
  pub inside : (place : ℕ) → from ≤ place → place < end → has_mark new place ≡ false
  pub outside : (place : ℕ) → ((from ≤ place) × (place < end) → ⊥)
      → has_mark new place ≡ has_mark old place
