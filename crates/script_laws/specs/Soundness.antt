-- What the values of scripts name: objects that are there, and functions that are built in or
-- declared. (This project's own.)
use Rattle.std.specs.Prelude.{◌≡◌, ℕ, ◌+◌, ◌<◌, ◌≤◌, true, List, length, All}
use Rattle.std.specs.List.{list_any}
use Rattle.es_values.specs.declared.values.Value.{Value}
use Rattle.es_values.specs.Heaps.{IsLive, IsSound, holds_function}
use Rattle.es_values.specs.Objects.{ObjectState}
use Rattle.es_values.specs.Values.{is_function}
use Rattle.es_shapes.specs.Functions.{first_function}
use Rattle.es_eval.specs.Evaluation.{all_functions}
use Rattle.es_shapes.specs.Syntax.{Program}

-- each function of programs, and each built-in one, has a number below this one
abbrev pub function_limit : List Program → ℕ
function_limit programs = first_function + length (all_functions programs)

-- a program's functions, numbered behind those of the programs before it, are among those of all
abbrev pub HasNumbers : List Program → List Program → Program → Type 0
HasNumbers programs before program =
    length (all_functions before) + length program.functions ≤ length (all_functions programs)

-- each object that the globals and the heap name is in the heap, and each function has a number
-- below the limit
pub record AreSound (limit : ℕ) (globals : List (List ℕ × Value))
    (heap : List ObjectState) : Type 0 where
  pub live : All (λ global. IsLive heap global.1) globals
  pub sound : IsSound heap
  pub named : (number : ℕ) → list_any (λ global. is_function number global.1) globals ≡ true
      → number < limit
  pub held : (number : ℕ) → holds_function number heap ≡ true → number < limit

-- they are sound, and the heap has at least the objects of the old one
pub record StaySound (limit : ℕ) (old : List ObjectState) (globals : List (List ℕ × Value))
    (heap : List ObjectState) : Type 0 where
  pub all : AreSound limit globals heap
  pub objects : length old ≤ length heap
