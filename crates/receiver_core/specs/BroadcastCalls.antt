-- A device of the proofs: what a broadcast makes of an input that is handed in whole, and of time.
use Rattle.std.specs.Prelude.{◌≡◌, ◌⊎◌, ℕ, ◌-◌, List, [], ◌∷◌, ◌++◌}
use Rattle.page.specs.Standing.{page_area}
use Rattle.receiver_core.specs.Broadcasts.{BroadcastState, HasOutcome, StandsFor}
use Rattle.receiver_core.specs.Outputs.{input_of, outcome_of, time_passes}
use Rattle.receiver_core.specs.Receiving.{IsSilent, next_stop, piece_for}
use Rattle.receiver_core.specs.State.{State}
use Rattle.receiver_core.specs.declared.broadcast.Input.{Input as HandedIn}

-- The input gave its piece, whose text is printed, whatever state what was kept stands for.
pub record MakesInput (input : HandedIn) (old new : BroadcastState) (before after : List ℕ)
    : Type 0 where
  pub text : List ℕ
  pub printed : after ≡ before ++ text
  pub area : IsSilent input → page_area new.page ≡ page_area old.page
  pub gives : (s : State) → StandsFor old s
      → HasOutcome new (piece_for input text (page_area new.page)) (outcome_of (input_of input) s)

-- Time passed to its end, and no turn was made.
pub record Waits (left : ℕ) (old new : BroadcastState) (before after : List ℕ) : Type 0 where
  pub silent : after ≡ before
  pub area : page_area new.page ≡ page_area old.page
  pub passes : (s : State) → StandsFor old s → HasOutcome new [] (time_passes left s)

-- So many milliseconds passed, and at their end a turn was made: its text is printed.
pub record TakesTurn (passed : ℕ) (old new : BroadcastState) (before after : List ℕ)
    : Type 0 where
  pub text : List ℕ
  pub printed : after ≡ before ++ text
  pub passes : (s : State) → StandsFor old s → HasOutcome new
      (record { text = text; area = page_area new.page } ∷ []) (time_passes passed s)

-- Time passed to its end, or to a turn, and so much of it is left.
abbrev pub PassesTime : ℕ → ℕ → BroadcastState → BroadcastState → List ℕ → List ℕ → Type 0
PassesTime left rest old new before after =
    ((rest ≡ 0) × Waits left old new before after)
    ⊎ TakesTurn (left - rest) old new before after

-- The clock stands where time stops that passes for so long.
abbrev pub Stops : ℕ → BroadcastState → BroadcastState → Type 0
Stops left old new = (s : State) → StandsFor old s → new.page.clock ≡ next_stop left s
