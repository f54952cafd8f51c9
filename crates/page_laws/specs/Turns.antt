-- How far a turn goes. (This project's own, after ARIB STD-B24 volume 2.)
use Rattle.std.specs.Prelude.{◌≡◌, ◌≤◌, ◌⊎◌, ℕ, zero, suc, Some, None}
use Rattle.page.specs.Dispatches.{dispatch, most_dispatches}
use Rattle.page.specs.State.{State, Step}

-- so many dispatches, one behind the other, lead from a state to another
unfoldable pub Dispatched : ℕ → State → State → Type 0
Dispatched zero s after = after ≡ s
Dispatched (suc more) s after =
    (t : Step) × (dispatch s ≡ Some t) × Dispatched more t.state after

-- A turn makes dispatches until there is none to make, or until it has made as many as it may.
pub record Turned (s after : State) : Type 0 where
  pub count : ℕ
  pub made : Dispatched count s after
  pub most : count ≤ most_dispatches
  pub ends : (count ≡ most_dispatches) ⊎ (dispatch after ≡ None)
