-- A device of the proofs: what a look for a value makes of the styles.
use Rattle.std.specs.Prelude.{◌≡◌, ◌⊎◌, ℕ, ◌+◌, ◌-◌, ◌^◌, ◌<◌, ◌≤◌, List, Some, true, min, slice_set, Contains, IsTrue}
use Rattle.dom_tree.specs.Items.{Item}
use Rattle.style_reader.specs.Values.{fits}
use Rattle.style_reader.specs.declared.properties.Property.{Property}
use Rattle.style_reader.specs.declared.properties.StyleValue.{StyleValue}
use Rattle.style_cascade.specs.Cascade.{Place, chain_of, place, style_value}
use Rattle.style_cascade.specs.Keeping.{IsRight, StylesState, is_kept, owed, unkept}
use Rattle.style_cascade.specs.devices.Tables.{cell_of, cell_place}
use Rattle.style_cascade.specs.declared.states.State.{State}

-- the styles once one more value is kept, and counted
abbrev pub with_kept : StylesState → Place → Property → StyleValue → StylesState
with_kept styles at property value =
    record styles {
      worked = min (styles.worked + 1) (2 ^ 64 - 1);
      kept = record styles.kept {
        values =
            slice_set styles.kept.values (cell_place at.node at.state property) (Some value);
      };
    }

-- the value of a place is given and kept
pub record Gets (items : List Item) (present : ℕ → State) (old new : StylesState) (at : Place)
    (property : Property) (value : StyleValue) : Type 0 where
  pub sources : new.sources ≡ old.sources
  pub value_is : value ≡ style_value items old.sources present at.node at.state property
  pub fitting : IsTrue (fits property value)
  pub right : IsRight items present new
  pub here : cell_of new.kept.values at.node at.state property ≡ Some value
  pub worked : new.worked
      ≡ min (old.worked + unkept items present old at.node at.state property) (2 ^ 64 - 1)
  pub all_kept : (other : Place)
      → Contains (chain_of items old.sources present at.node at.state property) other
      → is_kept new other.node other.state property ≡ true
  pub still : (node : ℕ) (state : State) (of : Property) (was : StyleValue)
      → cell_of old.kept.values node state of ≡ Some was
      → cell_of new.kept.values node state of ≡ Some was
  pub only : (node : ℕ) (state : State) (of : Property) → is_kept new node state of ≡ true
      → (is_kept old node state of ≡ true)
      ⊎ ((of ≡ property) × Contains
      (chain_of items old.sources present at.node at.state property) (place node state))
  pub behind : (node : ℕ) (state : State) (of : Property) → at.node < node
      → cell_of new.kept.values node state of ≡ cell_of old.kept.values node state of
  pub owes : at.state ≡ present at.node
      → new.worked + owed items present new ≤ old.worked + owed items present old
