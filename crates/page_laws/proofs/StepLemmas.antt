-- What each of several steps of a page keeps, they keep one behind the other.
use Rattle.std.specs.Prelude.{List, [], ◌∷◌}
use Rattle.page.specs.Inputs.{each_step}
use Rattle.page.specs.State.{State, Step}

pub each_step-kept : {A : Type 0} (Good : State → Type 0) (step : A → State → Step)
    → ((one : A) (s : State) → Good s → Good (step one s).state) → (all : List A) (s : State)
    → Good s → Good (each_step step all s).state
each_step-kept Good step keeps [] s h = h
each_step-kept Good step keeps (one ∷ others) s h =
    each_step-kept Good step keeps others (step one s).state (keeps one s h)
