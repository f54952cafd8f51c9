-- A device of the proofs: the globals behind names that are declared, one behind the other.
use Rattle.std.specs.Prelude.{ℕ, ◌+◌, List, [], ◌∷◌, is_some, if◌then◌else◌}
use Rattle.std.specs.Map.{lookup}
use Rattle.bml_bytes.specs.Words.{is_same}
use Rattle.es_values.specs.declared.values.Value.{Value}
use Rattle.es_values.specs.declared.values.Value.TheVariants.{Undefined, Function as FunctionValue}
use Rattle.es_values.specs.Heaps.{with_value}

-- names of functions, numbered from this number on
abbrev pub with_numbered : ℕ → List (List ℕ) → List (List ℕ × Value) → List (List ℕ × Value)
with_numbered number [] globals = globals
with_numbered number (name ∷ names) globals =
    with_numbered (number + 1) names (with_value globals name (FunctionValue number))

-- a name with Undefined where it is new
abbrev pub with_new_one : List (List ℕ × Value) → List ℕ → List (List ℕ × Value)
with_new_one globals name =
    if is_some (lookup (is_same name) globals) then globals else with_value globals name Undefined

abbrev pub with_new : List (List ℕ) → List (List ℕ × Value) → List (List ℕ × Value)
with_new [] globals = globals
with_new (name ∷ names) globals = with_new names (with_new_one globals name)
