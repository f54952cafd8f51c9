-- What node objects of scripts stand on: a document with its styles and its focus, and the event
-- whose handler runs. (This project's own.)
use Rattle.std.specs.Prelude.{ℕ, ◌==◌, if◌then◌else◌, Option, Some, None}
use Rattle.style_cascade.specs.StyledTrees.{StyledTree}
use Rattle.style_cascade.specs.declared.states.State.{State}
use Rattle.style_cascade.specs.declared.states.State.TheVariants as states
use Rattle.dom_objects.specs.declared.current_events.CurrentEvent.{CurrentEvent}

pub record Parts : Type 0 where
  pub tree : StyledTree
  pub event : CurrentEvent

-- the number of a state in a reference to a style
abbrev pub state_number : State → ℕ
state_number states.Normal = 0
state_number states.Focus = 1
state_number states.Active = 2

-- the state of a number, and none of any other number
abbrev pub state_of_number : ℕ → Option State
state_of_number number =
    if number == state_number states.Normal then Some states.Normal
    else if number == state_number states.Focus then Some states.Focus
    else if number == state_number states.Active then Some states.Active
    else None
