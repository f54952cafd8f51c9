-- What is found once the values of all parts are there. (A device of the proofs.)
use Rattle.std.specs.Prelude.{Bool, true, false, List, [], ◌∷◌, ◌≡◌}
use Rattle.es_shapes.specs.declared.shapes.Shape.{Shape}
use Rattle.es_shapes.specs.declared.shapes.Shape.TheVariants as shape
use Rattle.es_reader.specs.Programs.{ToldProgram}
use Rattle.es_values.specs.declared.values.Value.{Value}
use Rattle.es_eval.specs.declared.found.Found.{Found}
use Rattle.es_eval.specs.declared.found.Found.TheVariants as found_of
use Rattle.es_eval.specs.declared.outcomes.Outcome.TheVariants.{Stopped}
use Rattle.es_eval.specs.Actions.{Action, Next}
use Rattle.es_eval.specs.Worlds.{World, Run}
use Rattle.es_eval.specs.Worlds.Run.{Over}
use Rattle.es_eval.specs.devices.Machines.{MachineState, world_of}

-- a value is given, or the script is stopped
abbrev pub found_run : Found → World → Next Value → Run
found_run (found_of.Value value) w next = next value w
found_run (found_of.Stopped cause) w next = Over (Stopped cause) w

abbrev pub values_of_found : Found → List Value
values_of_found (found_of.Value value) = value ∷ []
values_of_found (found_of.Stopped cause) = []

-- the action gives this, whatever comes behind
abbrev pub Finds : List ToldProgram → Action Value → MachineState → MachineState → Found → Type 0
Finds programs action old new found =
    (next : Next Value) → action (world_of programs old) next
    ≡ found_run found (world_of programs new) next

-- an expression of this shape has no parts
abbrev pub is_single : Shape → Bool
is_single shape.This = true
is_single shape.Null = true
is_single (shape.Truth truth) = true
is_single (shape.Number number) = true
is_single (shape.Text text) = true
is_single (shape.Name name) = true
is_single _ = false
