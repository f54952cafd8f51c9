-- What `Styles` are, when they are those of a tree, and which values they keep (this project's own).
use Rattle.std.specs.Prelude.{ℕ, zero, suc, ◌+◌, Bool, List, [], ◌∷◌, Option, is_some, length, if◌then◌else◌}
use Rattle.dom_tree.specs.Items.{Item, tag_of}
use Rattle.style_reader.specs.Properties.{all_properties}
use Rattle.style_reader.specs.declared.properties.Property.{Property}
use Rattle.style_reader.specs.declared.properties.StyleValue.{StyleValue}
use Rattle.style_cascade.specs.Cascade.{Place, Sources, chain_of}
use Rattle.style_cascade.specs.devices.Kept.{IsKept, KeptTables}
use Rattle.style_cascade.specs.devices.Tables.{cell_of}
use Rattle.style_cascade.specs.declared.states.State.{State}

-- What values come from, and how many were worked out; and the tables, of which a public clause
-- says no more than which values are kept.
pub record StylesState : Type 0 where
  pub sources : Sources
  pub worked : ℕ
  pub kept : KeptTables

-- the styles are those of this tree, and what they keep is right where each node is in this state
unfoldable pub IsRight : List Item → (ℕ → State) → StylesState → Type 0
IsRight items states styles = IsKept items states styles.sources styles.kept

-- what is kept as the value that the node has for the property in the state
abbrev pub kept_style : StylesState → ℕ → State → Property → Option StyleValue
kept_style styles node state property = cell_of styles.kept.values node state property

-- such a value is kept
unfoldable pub is_kept : StylesState → ℕ → State → Property → Bool
is_kept styles node state property = is_some (kept_style styles node state property)

-- how many of the values at these places aren't kept
abbrev pub unkept_among : StylesState → Property → List Place → ℕ
unkept_among styles property [] = 0
unkept_among styles property (at ∷ more) =
    (if is_kept styles at.node at.state property then 0 else 1)
    + unkept_among styles property more

-- how many values of its chain aren't kept
unfoldable pub unkept : List Item → (ℕ → State) → StylesState → ℕ → State → Property → ℕ
unkept items present styles node state property =
    unkept_among styles property (chain_of items styles.sources present node state property)

-- ---- what is owed: the pairs of an element and a property whose value in the element's present
-- state isn't kept

-- how many of these properties have a value that isn't kept
abbrev pub owed_of : StylesState → ℕ → State → List Property → ℕ
owed_of styles node state [] = 0
owed_of styles node state (property ∷ more) =
    (if is_kept styles node state property then 0 else 1) + owed_of styles node state more

-- the number of such pairs at the node; a text has none
unfoldable pub owed_at : List Item → (ℕ → State) → StylesState → ℕ → ℕ
owed_at items present styles node =
    if is_some (tag_of items node) then owed_of styles node (present node) all_properties else 0

-- the number of such pairs at the first nodes
unfoldable pub owed_by : List Item → (ℕ → State) → StylesState → ℕ → ℕ
owed_by items present styles zero = 0
owed_by items present styles (suc count) =
    owed_at items present styles count + owed_by items present styles count

-- the number of such pairs
unfoldable pub owed : List Item → (ℕ → State) → StylesState → ℕ
owed items present styles = owed_by items present styles (length items)
