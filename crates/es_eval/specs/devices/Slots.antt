-- A device of the proofs: the places of the last call's locals.
use Rattle.std.specs.Prelude.{◌≡◌, ℕ, ◌+◌, List, [], ◌∷◌, Option, Some, None}
use Rattle.std.specs.List.{position}
use Rattle.std.specs.Map.{lookup}
use Rattle.bml_bytes.specs.Words.{is_same}
use Rattle.es_reader.specs.Programs.{ToldProgram}
use Rattle.es_values.specs.declared.values.Value.{Value}
use Rattle.es_eval.specs.devices.OpenCalls.{Call, function_of, locals_of, names_in, value_at, with_value}

-- values given to the places from one on, one behind the other
abbrev pub with_values : List Call → ℕ → List Value → List Call
with_values calls place [] = calls
with_values calls place (value ∷ values) =
    with_values (with_value calls place value) (place + 1) values

-- a name is the local at this place, which has a value; or it is none
abbrev pub IsSlotOf : List ToldProgram → List Call → List ℕ → Option ℕ → Type 0
IsSlotOf programs calls name (Some place) =
    (value : Value) × (position (is_same name) (names_in programs (function_of calls)) ≡ Some place)
    × (value_at calls place ≡ Some value)
IsSlotOf programs calls name None = lookup (is_same name) (locals_of programs calls) ≡ None
