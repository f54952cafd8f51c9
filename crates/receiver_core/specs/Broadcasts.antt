-- A device of the proofs: what is kept of a broadcast, and for which state it stands.
use Rattle.std.specs.Prelude.{◌≡◌, ℕ, List, ◌++◌}
use Rattle.psi_tables.specs.Service.{ServicesState}
use Rattle.psi_tables.specs.Service as services_of
use Rattle.module_locks.specs.Standing.{ModulesState}
use Rattle.page.specs.Standing.{PageState}
use Rattle.page.specs.Standing as page
use Rattle.receiver_core.specs.Outputs.{Outcome, Piece}
use Rattle.receiver_core.specs.State.{State}
use Rattle.receiver_core.specs.Turns.{Step}

pub record BroadcastState : Type 0 where
  pub services : ServicesState
  pub modules : ModulesState
  pub page : PageState

-- what is kept is what there is to be kept of the state
pub record StandsFor (state : BroadcastState) (s : State) : Type 0 where
  pub selection : state.services.selection ≡ s.selection
  pub services : services_of.StandsFor state.services s.handled
  pub page : page.StandsFor state.page state.modules s.page

-- what is kept stands for the state that is left, and this is the text of the step
pub record HasMade (state : BroadcastState) (text : List ℕ) (t : Step) : Type 0 where
  pub stands : StandsFor state t.state
  pub text_is : text ≡ t.text

-- A text was printed, and whatever state what was kept stands for, the step from it was made.
pub record Makes (step : State → Step) (old new : BroadcastState) (before after : List ℕ)
    : Type 0 where
  pub text : List ℕ
  pub printed : after ≡ before ++ text
  pub makes : (s : State) → StandsFor old s → HasMade new text (step s)

-- what is kept stands for the state that is left, and these are the pieces of the outcome
pub record HasOutcome (state : BroadcastState) (pieces : List Piece) (outcome : Outcome)
    : Type 0 where
  pub stands : StandsFor state outcome.state
  pub pieces_are : pieces ≡ outcome.pieces
