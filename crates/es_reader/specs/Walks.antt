-- Which nodes the statements of a program lead to (this project's own).
use Rattle.std.specs.Prelude.{◌≡◌, ◌⊎◌, ℕ, ◌<◌, List, [], ◌∷◌, Some, slice_get}
use Rattle.es_expressions.specs.Nodes.{NodeRow}
use Rattle.es_reader.specs.Programs.{ToldFunction, ToldProgram}

-- it is the node of a statement of the program, or of one of its functions
abbrev pub IsStatement : ToldProgram → ℕ → Type 0
IsStatement told number =
    ((place : ℕ) × (slice_get told.top place ≡ Some number))
    ⊎ ((function : ℕ) × (declared : ToldFunction) × (slice_get told.functions function ≡ Some declared)
    × (place : ℕ) × (slice_get declared.body place ≡ Some number))

-- from a node one comes to this one, by the child at each of these places in turn
abbrev pub Leads : List NodeRow → ℕ → List ℕ → ℕ → Type 0
Leads rows from [] number = from ≡ number
Leads rows from (place ∷ places) number =
    (row : NodeRow) × (slice_get rows from ≡ Some row)
    × (child : ℕ) × (slice_get row.children place ≡ Some child) × Leads rows child places number

-- the node stands among the others, and its children in front of it
pub record StandsBehindChildren (rows : List NodeRow) (number : ℕ) : Type 0 where
  pub row : NodeRow
  pub there : slice_get rows number ≡ Some row
  pub behind : (place child : ℕ) → slice_get row.children place ≡ Some child → child < number
