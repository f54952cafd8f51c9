-- The evaluator's state, and the rest of the run that it stands for. (A device of the proofs.)
use Rattle.std.specs.Prelude.{ℕ, ◌+◌, ◌*◌, ◌-◌, ◌≤◌, List, [], ◌∷◌, ◌++◌, length, map, take, slice_get, Option, None, All, ◌≡◌}
use Rattle.std.specs.List.{sum_by}
use Rattle.std.specs.Option.{option_map_or}
use Rattle.es_builtins.specs.declared.built.Built.{Built}
use Rattle.es_builtins.specs.declared.built.Built.TheVariants as built
use Rattle.es_reader.specs.Programs.{ToldProgram}
use Rattle.es_values.specs.declared.hosts.HostAnswer.{HostAnswer}
use Rattle.es_values.specs.declared.hosts.HostAnswer.TheVariants as host
use Rattle.es_values.specs.declared.values.Value.{Value}
use Rattle.es_values.specs.declared.values.Value.TheVariants.{Undefined, Object}
use Rattle.es_values.specs.Charges.{begun_sixteens}
use Rattle.es_values.specs.Heaps.{IsLive, names_of, object_at}
use Rattle.es_values.specs.Objects.{ObjectState}
use Rattle.es_frames.specs.Depth.{most_calls}
use Rattle.es_shapes.specs.declared.codes.Listing.TheVariants.{Top}
use Rattle.es_eval.specs.declared.outcomes.Outcome.TheVariants.{Normal as AtEnd, Ended, Stopped}
use Rattle.es_eval.specs.declared.outcomes.StopCause.TheVariants.{Budget, NotCallable, Unresolved}
use Rattle.es_eval.specs.declared.works.Callee.{Callee}
use Rattle.es_eval.specs.declared.works.Callee.TheVariants as callee
use Rattle.es_eval.specs.declared.works.CallWork.{CallWork}
use Rattle.es_eval.specs.declared.works.CallWork.TheVariants as call
use Rattle.es_eval.specs.declared.works.Given.{Given}
use Rattle.es_eval.specs.declared.works.Given.TheVariants as given
use Rattle.es_eval.specs.declared.works.MemberWork.{MemberWork}
use Rattle.es_eval.specs.declared.works.MemberWork.TheVariants as member
use Rattle.es_eval.specs.declared.works.Now.{Now}
use Rattle.es_eval.specs.declared.works.Now.TheVariants as now
use Rattle.es_eval.specs.declared.works.OperandWork.{OperandWork}
use Rattle.es_eval.specs.declared.works.OperandWork.TheVariants as operand
use Rattle.es_eval.specs.declared.works.Place.{Place}
use Rattle.es_eval.specs.declared.works.Place.TheVariants as placed
use Rattle.es_eval.specs.declared.works.StatementWork.{StatementWork}
use Rattle.es_eval.specs.declared.works.StatementWork.TheVariants as statement
use Rattle.es_eval.specs.declared.works.TargetWork.{TargetWork}
use Rattle.es_eval.specs.declared.works.TargetWork.TheVariants as target
use Rattle.es_eval.specs.declared.works.Use.{Use}
use Rattle.es_eval.specs.declared.works.Use.TheVariants as use_of
use Rattle.es_eval.specs.declared.works.Work.{Work}
use Rattle.es_eval.specs.declared.works.Work.TheVariants as work
use Rattle.es_eval.specs.Actions.{Action, Next, answered, charged}
use Rattle.es_eval.specs.Calls.{call_value}
use Rattle.es_shapes.specs.Functions.{first_function}
use Rattle.es_shapes.specs.Codes.{declared_by, function_at}
use Rattle.es_shapes.specs.devices.Parts.{statements_from}
use Rattle.es_eval.specs.Evaluation.{ends_normally, with_functions, with_variables}
use Rattle.es_eval.specs.Rows.{statements}
use Rattle.es_shapes.specs.Syntax.{Function}
use Rattle.es_eval.specs.Unbounded.{called}
use Rattle.es_eval.specs.devices.OpenCalls.{Call, below_last, locals_of}
use Rattle.es_eval.specs.devices.Works.{calls_callee, completed, does, evaluates, executes, runs}
use Rattle.es_eval.specs.Worlds.{IsNamedLive, World, Run, global}
use Rattle.es_eval.specs.Worlds.Run.{Over, Reads, Writes, Calls}

-- the globals, the objects, the control stack, whose last frame stands in front, and the steps that are left
pub record MachineState : Type 0 where
  pub globals : List (List ℕ × Value)
  pub heap : List ObjectState
  pub frames : List Call
  pub left : ℕ

abbrev pub this_in : List Call → Value
this_in [] = Undefined
this_in (last ∷ below) = last.this

-- the lowest frame is the program's own
abbrev pub depth_of : List Call → ℕ
depth_of frames = length frames - 1

-- the locals of the call that runs are its values, by the names that its function declares
abbrev pub world_of : List ToldProgram → MachineState → World
world_of programs m = record {
  globals = m.globals;
  locals = locals_of programs m.frames;
  this = this_in m.frames;
  depth = depth_of m.frames;
  heap = m.heap;
  left = m.left;
}

-- ---- the rest of a run

-- what a call's body gives as the call's value
abbrev pub value_of_call : Given → Given
value_of_call (given.Returned value) = given.Value value
value_of_call other = given.Value Undefined

abbrev pub items_rest : List ToldProgram → List Work → Next Given → Next Given
items_rest programs [] behind = behind
items_rest programs (item ∷ items) behind =
    λ handed w. does programs item handed w (items_rest programs items behind)

-- in the frame below again
abbrev pub outside_of : List ToldProgram → List Call → World → World
outside_of programs below w = record w {
  locals = locals_of programs below;
  this = this_in below;
  depth = depth_of below;
}

-- The items of the last frame; then what its call gives goes to the frame below. Behind the lowest frame
-- the script is at its end.
unfoldable mutual
  pub rest : List ToldProgram → List Call → Next Given
  rest programs [] = λ handed w. Over AtEnd w
  rest programs (last ∷ below) = items_rest programs last.items (behind_frame programs below)

  pub behind_frame : List ToldProgram → List Call → Next Given
  behind_frame programs [] = λ handed w. Over AtEnd w
  behind_frame programs (caller ∷ below) = λ handed w.
      items_rest programs caller.items (behind_frame programs below) (value_of_call handed)
      (outside_of programs (caller ∷ below) w)

-- what is given goes past the items of the last frame
abbrev pub GoesPast : List ToldProgram → List Call → Given → Type 0
GoesPast programs frames handed =
    (w : World)
    → rest programs frames handed w ≡ behind_frame programs (below_last frames) handed w

abbrev pub value_rest : List ToldProgram → List Call → Next Value
value_rest programs frames = λ value w. rest programs frames (given.Value value) w

-- what comes next, and then the rest
abbrev pub next_run : List ToldProgram → Now → World → Next Given → Run
next_run programs (now.Evaluate code) w next =
    evaluates programs code w (λ value after. next (given.Value value) after)
next_run programs (now.Execute code) w next =
    executes programs code w (λ completion after. next (completed completion) after)
next_run programs (now.Gives handed) w next = next handed w
next_run programs (now.Reads base name) w next =
    Reads base name (λ value. next (given.Value value) w)
next_run programs (now.Writes base name value) w next =
    Writes base name value w.heap (next (given.Value value) w)
next_run programs (now.Calls base name arguments) w next =
    Calls base name arguments.items w.heap
    (answered w (λ value after. next (given.Value value) after))
next_run programs (now.Applies callee arguments) w next =
    calls_callee programs callee arguments.items w
    (λ value after. next (given.Value value) after)
next_run programs (now.Over outcome) w next = Over outcome w

-- the run that is left where this comes next
abbrev pub run_from : List ToldProgram → MachineState → Now → Run
run_from programs m next = next_run programs next (world_of programs m) (rest programs m.frames)

-- ---- values that are held

abbrev pub values_of_place : Place → List Value
values_of_place (placed.Member base key) = base ∷ []
values_of_place (placed.Name name code) = []

abbrev pub values_of_use : Use → List Value
values_of_use (use_of.Visit name visit) = Object visit.object ∷ []
values_of_use _ = []

abbrev pub values_of_callee : Callee → List Value
values_of_callee (callee.Value value) = value ∷ []
values_of_callee (callee.Constructor value) = value ∷ []
values_of_callee (callee.Member base key) = base ∷ []

abbrev pub values_of_operand : OperandWork → List Value
values_of_operand (operand.Right operator left) = left ∷ []
values_of_operand (operand.Instead value) = value ∷ []
values_of_operand _ = []

abbrev pub values_of_member : MemberWork → List Value
values_of_member (member.IndexKey base) = base ∷ []
values_of_member (member.DeleteIndexKey base) = base ∷ []
values_of_member _ = []

abbrev pub values_of_call : CallWork → List Value
values_of_call (call.IndexKey base code) = base ∷ []
values_of_call (call.Argument open_call) =
    values_of_callee open_call.callee ++ open_call.given.items
values_of_call (call.Constructed new) = new ∷ []
values_of_call _ = []

abbrev pub values_of_target : TargetWork → List Value
values_of_target (target.IndexBase key purpose) = values_of_use purpose
values_of_target (target.IndexKey base purpose) = base ∷ values_of_use purpose
values_of_target (target.MemberBase name purpose) = values_of_use purpose
values_of_target (target.Write place) = values_of_place place
values_of_target (target.UpdateRead operator place right) = values_of_place place
values_of_target (target.UpdateRight operator place before) = before ∷ values_of_place place
values_of_target (target.StepRead in_front down place) = values_of_place place
values_of_target (target.Visited visit) = Object visit.object ∷ []

abbrev pub values_of_statement : StatementWork → List Value
values_of_statement (statement.Visiting visit) = Object visit.object ∷ []
values_of_statement _ = []

abbrev pub values_of_work : Work → List Value
values_of_work (work.Operand item) = values_of_operand item
values_of_work (work.Member item) = values_of_member item
values_of_work (work.Call item) = values_of_call item
values_of_work (work.Target item) = values_of_target item
values_of_work (work.Statement item) = values_of_statement item

abbrev pub values_of_given : Given → List Value
values_of_given (given.Value value) = value ∷ []
values_of_given (given.Returned value) = value ∷ []
values_of_given _ = []

abbrev pub values_of_next : Now → List Value
values_of_next (now.Gives handed) = values_of_given handed
values_of_next (now.Writes base name value) = value ∷ []
values_of_next (now.Calls base name arguments) = arguments.items
values_of_next (now.Applies callee arguments) = values_of_callee callee ++ arguments.items
values_of_next _ = []

-- each of these values is live
abbrev pub AreLive : List ObjectState → List Value → Type 0
AreLive heap values = All (IsLive heap) values

abbrev pub IsWorkLive : List ObjectState → Work → Type 0
IsWorkLive heap item = AreLive heap (values_of_work item)

abbrev pub IsFrameLive : List ObjectState → Call → Type 0
IsFrameLive heap frame =
    IsLive heap frame.this × AreLive heap frame.values × All (IsWorkLive heap) frame.items

-- ---- what each machine keeps

pub record IsMachine (m : MachineState) : Type 0 where
  pub globals : All (IsNamedLive m.heap) m.globals
  pub frames : All (IsFrameLive m.heap) m.frames
  pub some : 1 ≤ length m.frames
  pub depth : length m.frames ≤ most_calls + 1
  pub steps : m.left ≤ 100000

-- ---- how much is left to be done

-- How many items may follow one another, from this one on, with no step between them. Behind a part of a
-- call its function is entered.
abbrev pub turns_of : Work → ℕ
turns_of (work.Call (call.Constructed new)) = 1
turns_of (work.Call item) = 8
turns_of (work.Target (target.IndexKey base purpose)) = 3
turns_of (work.Target (target.MemberBase name purpose)) = 3
turns_of (work.Target (target.StepRead in_front down place)) = 2
turns_of other = 1

abbrev pub items_of : Call → ℕ
items_of frame = sum_by turns_of frame.items

-- each step pays for what is put on the stack
unfoldable pub burden : MachineState → ℕ
burden m = 40 * m.left + (2 * sum_by items_of m.frames + length m.frames)

abbrev pub weight_of_next : Now → ℕ
weight_of_next (now.Evaluate code) = 1
weight_of_next (now.Execute code) = 1
weight_of_next (now.Gives handed) = 11
weight_of_next (now.Over outcome) = 0
weight_of_next (now.Applies callee arguments) = 25
weight_of_next _ = 12

abbrev pub weight : MachineState → Now → ℕ
weight m next = burden m + weight_of_next next

-- ---- parts of an arm

-- The action gives what is found in a world, and goes on in another; or too few steps are left, and the
-- script is stopped there.
abbrev pub Carries : {A : Type 0} → Action A → World → Option A → World → Type 0
Carries {A} action before found after =
    (next : Next A) → action before next
    ≡ option_map_or (λ x. next x after) found (Over (Stopped Budget) after)

-- the same of the worlds that two machines stand for, whichever the programs are
abbrev pub CarriesOn : {A : Type 0} → Action A → MachineState → Option A → MachineState → Type 0
CarriesOn {A} action old found new =
    (programs : List ToldProgram)
    → Carries action (world_of programs old) found (world_of programs new)

-- what comes behind the last frame's next item stays, and no more is to be done
pub record Stays (old new : MachineState) : Type 0 where
  pub rest : (programs : List ToldProgram) → rest programs new.frames ≡ rest programs old.frames
  pub less : burden new ≤ burden old
  pub heap : length old.heap ≤ length new.heap

-- the names of an object, charged by their number
abbrev pub names_in : ℕ → Action (List (List ℕ))
names_in object =
    charged (λ heap. begun_sixteens (length (names_of (object_at heap object))))
    (λ w next. next (names_of (object_at w.heap object)) w)

-- ---- arms

-- the run that is left is that of this action, with what comes behind the last item
abbrev pub GoesOn : List ToldProgram → MachineState → Action Given → MachineState → Now → Type 0
GoesOn programs old action new next =
    run_from programs new next ≡ action (world_of programs old) (rest programs old.frames)

abbrev pub IsNextLive : MachineState → Now → Type 0
IsNextLive m next = AreLive m.heap (values_of_next next)

-- an arm puts less on the stack than a step pays for
abbrev pub IsLess : MachineState → MachineState → Now → Type 0
IsLess old new next = weight new next ≤ burden old + 12

-- a call, which has its node's step too
abbrev pub IsLessOfCall : MachineState → MachineState → Now → Type 0
IsLessOfCall old new next = weight new next ≤ burden old + 24

-- the same of a target's item, and of what is done with a place
abbrev pub IsLessAfter : Work → MachineState → MachineState → Now → Type 0
IsLessAfter item old new next = weight new next ≤ burden old + (2 * turns_of item + 10)

abbrev pub IsLittle : MachineState → MachineState → Now → Type 0
IsLittle old new next = weight new next ≤ burden old + 16

-- ---- what a built-in answered

abbrev pub built_run : Built → World → Next Value → Run
built_run (built.Value value) w next = next value w
built_run built.NotCallable w next = Over (Stopped NotCallable) w
built_run built.OverBudget w next = Over (Stopped Budget) w

abbrev pub values_of_built : Built → List Value
values_of_built (built.Value value) = value ∷ []
values_of_built _ = []

-- ---- what a host answered

abbrev pub next_behind : HostAnswer → Now
next_behind (host.Value value) = now.Gives (given.Value value)
next_behind host.Ended = now.Over Ended
next_behind host.NotCallable = now.Over (Stopped NotCallable)

-- ---- scripts as a whole

-- at the start
abbrev pub opened : List (List ℕ × Value) → List ObjectState → ℕ → MachineState
opened globals heap left = record {
  globals = globals;
  heap = heap;
  frames = record { function = None; this = Undefined; values = []; items = [] } ∷ [];
  left = left;
}

abbrev pub variables_of : List ToldProgram → ℕ → List (List ℕ)
variables_of programs place =
    option_map_or (λ told. told.variables) (slice_get programs place) []

abbrev pub functions_of : List ToldProgram → ℕ → List Function
functions_of programs place =
    option_map_or (λ told. map (function_at told.rows) told.functions) (slice_get programs place) []

-- the functions of the program at a place are globals
unfoldable pub with_declared : List ToldProgram → ℕ → World → World
with_declared programs place w = record w {
  globals = with_functions (first_function + length (declared_by (take place programs)))
      (functions_of programs place) w.globals;
}

-- the run of the program at a place, and that of a global
unfoldable pub told_run : List ToldProgram → ℕ → World → Run
told_run programs place w =
    statements (runs programs) (statements_from programs (Top place) 0)
    (with_variables (variables_of programs place) (with_declared programs place w)) ends_normally

unfoldable pub told_global_run : List ToldProgram → List ℕ → World → Run
told_global_run programs name w =
    option_map_or
    (λ value. call_value (declared_by programs) (called (declared_by programs)) value [] w
    ends_normally)
    (global w name) (Over (Stopped Unresolved) w)
