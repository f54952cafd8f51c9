-- What scripts ask of their host, and what they may rely on. (This project's own.)
use Rattle.std.specs.Prelude.{◌≡◌, ℕ, ◌≤◌, Bool, true, false, ◌||◌, if◌then◌else◌, List, length, codes}
use Rattle.std.specs.List.{list_any}
use Rattle.bml_bytes.specs.Words.{is_same}
use Rattle.es_values.specs.declared.values.Value.{Value}
use Rattle.es_values.specs.declared.values.Value.TheVariants.{Null, Object, Function}
use Rattle.es_values.specs.declared.hosts.HostAnswer.{HostAnswer}
use Rattle.es_values.specs.declared.hosts.HostAnswer.TheVariants.{Value as Answered, Ended, NotCallable}
use Rattle.es_values.specs.Objects.{ObjectState}
use Rattle.es_values.specs.Values.{is_function}
use Rattle.es_values.specs.Heaps.{IsLive, holds_function}

abbrev pub is_any_function : Value → Bool
is_any_function (Function _) = true
is_any_function _ = false

-- an answer's value is no function, and live in the heap that the call leaves
abbrev pub IsAnswer : List ObjectState → HostAnswer → Type 0
IsAnswer heap (Answered value) = (is_any_function value ≡ false) × IsLive heap value
IsAnswer heap Ended = Unit {0}
IsAnswer heap NotCallable = Unit {0}

-- each object stays, and no function is in the heap that was neither there nor among the arguments
pub record KeepsHeap (old : List ObjectState) (arguments : List Value) (new : List ObjectState) : Type 0 where
  pub objects : length old ≤ length new
  pub functions : (number : ℕ) → holds_function number new ≡ true
      → (holds_function number old || list_any (is_function number) arguments) ≡ true

-- A host for tests, which keeps values by name

-- what it keeps of a value: Null in place of an object or a function
abbrev pub row_value : Value → Value
row_value (Object _) = Null
row_value (Function _) = Null
row_value value = value

-- what a call of this name answers
abbrev pub row_answer : List ℕ → HostAnswer
row_answer name = if is_same name (codes "end") then Ended else NotCallable
