-- Calls: of functions of the programs, of built-in ones, of methods and of members of the host (ECMA-262
-- second edition, 11.2.2, 11.2.3 and 13.2; how deep calls are nested, and what is stopped and charged, are
-- this project's own).
use Rattle.std.specs.Prelude.{ℕ, zero, suc, ◌+◌, nat_lt, false, if◌then◌else◌, List, [], ◌∷◌, ◌++◌, length}
use Rattle.std.specs.List.{sum_by}
use Rattle.std.specs.Option.{option_map_or}
use Rattle.es_values.specs.declared.values.Value.{Value}
use Rattle.es_values.specs.declared.values.Value.TheVariants.{Undefined, Null, Object, Function, Host}
use Rattle.es_values.specs.Charges.{conversion_charge}
use Rattle.es_values.specs.Heaps.{new_object, object_at, value_of}
use Rattle.es_builtins.specs.Functions.{construction_row, function_row}
use Rattle.es_builtins.specs.Methods.{method_row}
use Rattle.es_eval.specs.declared.outcomes.StopCause.TheVariants.{Depth, NotCallable, NotObject}
use Rattle.es_eval.specs.Actions.{Action, answered, by_row, charged, stops}
use Rattle.es_frames.specs.Depth.{most_calls}
use Rattle.es_shapes.specs.Functions.{declared_function}
use Rattle.es_shapes.specs.Syntax.{Function as Declared, Statements}
use Rattle.es_eval.specs.Worlds.{World}
use Rattle.es_eval.specs.Worlds.Run.{Calls}

-- the locals of a call: parameters with the arguments, which are Undefined where they are absent, and the
-- other names with Undefined
abbrev pub bound : List (List ℕ) → ℕ → List Value → List (List ℕ × Value)
bound [] parameters arguments = []
bound (name ∷ names) zero arguments = (name, Undefined) ∷ bound names zero arguments
bound (name ∷ names) (suc more) [] = (name, Undefined) ∷ bound names more []
bound (name ∷ names) (suc more) (value ∷ arguments) = (name, value) ∷ bound names more arguments

-- in the call: its own locals and `this`, and one call more is open
abbrev pub inside : Declared → Value → List Value → World → World
inside function this arguments w = record w {
  locals = bound function.locals function.parameters arguments;
  this = this;
  depth = w.depth + 1;
}

-- behind it: those of the caller again
abbrev pub outside : World → World → World
outside caller w = record w { locals = caller.locals; this = caller.this; depth = caller.depth }

-- how a body's statements are run, whose value is what they return
abbrev pub Body : Type 0
Body = Statements → Action Value

abbrev pub enter : Body → Declared → Value → List Value → Action Value
enter body function this arguments = λ caller next.
    if nat_lt caller.depth most_calls
    then body function.body (inside function this arguments caller)
    (λ value after. next value (outside caller after))
    else stops Depth caller next

-- a call of a function number, with this `this`
abbrev pub call_number : List Declared → Body → ℕ → Value → List Value → Action Value
call_number functions body number this arguments =
    option_map_or (λ function. enter body function this arguments)
    (declared_function functions number) (by_row (λ heap. function_row heap number arguments))

-- a call of a value that is no member
abbrev pub call_value : List Declared → Body → Value → List Value → Action Value
call_value functions body (Function number) arguments =
    call_number functions body number Undefined arguments
call_value functions body other arguments = stops NotCallable

-- ---- calls of members

-- an own property that is a function, and else the built-in method
abbrev pub call_property : List Declared → Body → ℕ → List ℕ → List Value → Value → Action Value
call_property functions body object key arguments (Function number) =
    call_number functions body number (Object object) arguments
call_property functions body object key arguments other =
    by_row (λ heap. method_row heap (Object object) key arguments)

-- a host's: each argument that is an array is charged as a text
abbrev pub call_member : List Declared → Body → Value → List ℕ → List Value → Action Value
call_member functions body Undefined key arguments = stops NotObject
call_member functions body Null key arguments = stops NotObject
call_member functions body (Object object) key arguments = λ w next.
    call_property functions body object key arguments (value_of (object_at w.heap object) key) w
    next
call_member functions body (Host reference) key arguments =
    charged (λ heap. sum_by (conversion_charge heap) arguments)
    (λ w next. Calls reference key arguments w.heap (answered w next))
call_member functions body other key arguments =
    by_row (λ heap. method_row heap other key arguments)

-- ---- new

-- what a function returns counts where it is an object, and else the new one
abbrev pub object_or : Value → Value → Value
object_or new (Object object) = Object object
object_or new other = new

-- the new object comes into the heap where the call may be made
abbrev pub with_new_object : World → World
with_new_object w = record w { heap = w.heap ++ new_object false ∷ [] }

abbrev pub construct_as : Body → Declared → Value → List Value → Action Value
construct_as body function new arguments = λ caller next.
    body function.body (inside function new arguments (with_new_object caller))
    (λ value after. next (object_or new value) (outside caller after))

abbrev pub construct : Body → Declared → List Value → Action Value
construct body function arguments = λ caller next.
    if nat_lt caller.depth most_calls
    then construct_as body function (Object (length caller.heap)) arguments caller next
    else stops Depth caller next

abbrev pub new_value : List Declared → Body → Value → List Value → Action Value
new_value functions body (Function number) arguments =
    option_map_or (λ function. construct body function arguments)
    (declared_function functions number)
    (by_row (λ heap. construction_row heap number arguments))
new_value functions body other arguments = stops NotCallable
