-- What evaluation is made of: actions, one behind the other. (This project's own.)
use Rattle.std.specs.Prelude.{ℕ, ◌-◌, nat_le, if◌then◌else◌, List}
use Rattle.es_values.specs.declared.hosts.HostAnswer.{HostAnswer}
use Rattle.es_values.specs.declared.hosts.HostAnswer.TheVariants as host
use Rattle.es_values.specs.declared.numbers.Num.{Num}
use Rattle.es_values.specs.declared.values.Value.{Value}
use Rattle.es_values.specs.Charges.{conversion_charge}
use Rattle.es_values.specs.Conversions.{number_of, text_of}
use Rattle.es_values.specs.Objects.{ObjectState}
use Rattle.es_builtins.specs.Rows.{Row}
use Rattle.es_builtins.specs.Rows.Row.{NoRow, Gives}
use Rattle.es_eval.specs.declared.outcomes.Outcome.TheVariants.{Stopped, Ended}
use Rattle.es_eval.specs.declared.outcomes.StopCause.{StopCause}
use Rattle.es_eval.specs.declared.outcomes.StopCause.TheVariants.{Budget, NotCallable}
use Rattle.es_eval.specs.Worlds.{World, Run}
use Rattle.es_eval.specs.Worlds.Run.{Over}

-- what goes on with a thing of this type that is given, and the world then
abbrev pub Next : Type 0 → Type 0
Next A = A → World → Run

-- it goes on from a world with what it gives, or is over
abbrev pub Action : Type 0 → Type 0
Action A = World → Next A → Run

-- gives this and changes nothing
abbrev pub gives : {A : Type 0} → A → Action A
gives x = λ w next. next x w

-- one action and then another, which is handed what the first gives
abbrev pub behind : {A B : Type 0} → Action A → (A → Action B) → Action B
behind first second = λ w next. first w (λ x after. second x after next)

abbrev pub and_then : {A B : Type 0} → Action A → Action B → Action B
and_then first second = λ w next. first w (λ x after. second after next)

-- the script is stopped
abbrev pub stops : {A : Type 0} → StopCause → Action A
stops cause = λ w next. Over (Stopped cause) w

-- Steps are taken where they are left, and else the script is stopped with those that are left.
abbrev pub takes : {A : Type 0} → ℕ → Action A → Action A
takes steps more = λ w next.
    if nat_le steps w.left then more (record w { left = w.left - steps }) next
    else Over (Stopped Budget) w

-- each statement and each node of an expression takes one where it is entered
abbrev pub step : {A : Type 0} → Action A → Action A
step more = takes 1 more

-- what is charged is told by the heap
abbrev pub charged : {A : Type 0} → (List ObjectState → ℕ) → Action A → Action A
charged charge more = λ w next. takes (charge w.heap) more w next

-- ---- conversions, with their charge

abbrev pub as_text : Value → Action (List ℕ)
as_text value =
    charged (λ heap. conversion_charge heap value) (λ w next. next (text_of w.heap value) w)

abbrev pub as_number : Value → Action Num
as_number value =
    charged (λ heap. conversion_charge heap value) (λ w next. next (number_of w.heap value) w)

-- ---- rows of built-in functions and methods

abbrev pub by_row_in : World → Next Value → Row → Run
by_row_in w next NoRow = Over (Stopped NotCallable) w
by_row_in w next (Gives charge value heap) =
    takes charge (λ after go. go value (record after { heap = heap })) w next

abbrev pub by_row : (List ObjectState → Row) → Action Value
by_row row = λ w next. by_row_in w next (row w.heap)

-- ---- answers of a host to a call

abbrev pub answered : World → Next Value → HostAnswer → List ObjectState → Run
answered w next (host.Value value) heap = next value (record w { heap = heap })
answered w next host.Ended heap = Over Ended (record w { heap = heap })
answered w next host.NotCallable heap = Over (Stopped NotCallable) (record w { heap = heap })
