-- What scripts have written into the styles of elements (this project's own form): a finite map. It
-- has for a cell, which is a state of a node and a property, the value that was written there last.
use Rattle.std.specs.Prelude.{ℕ, Bool, List, Option}
use Rattle.std.specs.FinMap.Entries.{find, is_sorted, put}
use Rattle.std.specs.Ordering.{nat_cmp, ordering_then}
use Rattle.std.specs.declared.cmp.Ordering.{Ordering}
use Rattle.style_reader.specs.declared.properties.Property.{Property}
use Rattle.style_reader.specs.declared.properties.StyleValue.{StyleValue}
use Rattle.style_cascade.specs.Candidates.{property_place}
use Rattle.style_cascade.specs.declared.states.State.{State}
use Rattle.style_cascade.specs.declared.states.State.TheVariants as states

pub record Cell : Type 0 where
  pub node : ℕ
  pub state : State
  pub property : Property

abbrev pub cell : ℕ → State → Property → Cell
cell node state property = record { node = node; state = state; property = property }

unfoldable pub state_place : State → ℕ
state_place states.Normal = 0
state_place states.Focus = 1
state_place states.Active = 2

-- the order of cells: by the node, then by the state, then by the property
abbrev pub cell_cmp : Cell → Cell → Ordering
cell_cmp one other =
    ordering_then (nat_cmp one.node other.node)
    (ordering_then (nat_cmp (state_place one.state) (state_place other.state))
    (nat_cmp (property_place one.property) (property_place other.property)))

-- The map is the list of its entries, in the order of their cells (that no more is seen of it than
-- the value that each cell has is a law).
abbrev pub StyleWrites : Type 0
StyleWrites = List (Cell × StyleValue)

-- the value of the cell, if it has one
abbrev pub written_value : Cell → StyleWrites → Option StyleValue
written_value at writes = find cell_cmp at writes

-- the map in which the cell has the value, and every other cell what it had
abbrev pub with_value : Cell → StyleValue → StyleWrites → StyleWrites
with_value at value writes = put cell_cmp at value writes

-- the cells of the entries strictly rise
abbrev pub are_in_order : StyleWrites → Bool
are_in_order writes = is_sorted cell_cmp writes
