-- What is evaluated at once, and what waits: what comes next, and the items that wait for it, from the
-- inside out. (A device of the proofs.)
use Rattle.std.specs.Prelude.{ℕ, ◌+◌, ◌*◌, ◌≤◌, ◌≡◌, Bool, true, false, List, [], ◌∷◌, ◌++◌, length, All, Option, Some, None, ⊤}
use Rattle.std.specs.List.{sum_by}
use Rattle.es_reader.specs.Programs.{ToldProgram}
use Rattle.es_eval.specs.declared.held.Reached.{Reached}
use Rattle.es_eval.specs.declared.held.Reached.TheVariants as reached_of
use Rattle.es_shapes.specs.declared.codes.Code.{Code}
use Rattle.es_shapes.specs.declared.shapes.Shape.{Shape}
use Rattle.es_shapes.specs.declared.shapes.Shape.TheVariants as shape
use Rattle.es_shapes.specs.devices.Parts.{expression_at}
use Rattle.es_shapes.specs.devices.Leaves.{is_name}
use Rattle.es_eval.specs.declared.found.Found.{Found}
use Rattle.es_eval.specs.declared.found.Found.TheVariants as found_of
use Rattle.es_eval.specs.declared.works.OperandWork.TheVariants as operand
use Rattle.es_eval.specs.declared.works.Work.TheVariants as work
use Rattle.es_eval.specs.declared.held.Held.{Held}
use Rattle.es_eval.specs.declared.held.Ran.{Ran}
use Rattle.es_eval.specs.declared.held.Ran.TheVariants as ran_of
use Rattle.es_eval.specs.declared.outcomes.Outcome.TheVariants.{Stopped}
use Rattle.es_eval.specs.declared.works.Given.{Given}
use Rattle.es_eval.specs.declared.works.Given.TheVariants as given
use Rattle.es_eval.specs.declared.works.Now.{Now}
use Rattle.es_eval.specs.declared.works.Now.TheVariants as now
use Rattle.es_eval.specs.declared.works.Work.{Work}
use Rattle.es_values.specs.declared.values.Value.{Value}
use Rattle.es_eval.specs.Actions.{Action, Next, by_row}
use Rattle.es_eval.specs.Rows.{Completion}
use Rattle.es_eval.specs.devices.Machines.{AreLive, IsWorkLive, MachineState, Stays, burden, items_rest, next_run, rest, turns_of, values_of_next, weight_of_next, world_of}
use Rattle.es_builtins.specs.declared.built.Built.{Built}
use Rattle.es_builtins.specs.declared.built.Built.TheVariants as built
use Rattle.es_builtins.specs.Methods.{method_row}
use Rattle.es_values.specs.Objects.{ObjectState}
use Rattle.es_eval.specs.declared.applications.Gathered.{Gathered}
use Rattle.es_eval.specs.declared.applications.Gathered.TheVariants as gathered_of
use Rattle.es_eval.specs.declared.outcomes.StopCause.{StopCause}
use Rattle.es_eval.specs.declared.outcomes.StopCause.TheVariants.{Budget, NotCallable}
use Rattle.es_eval.specs.declared.works.Callee.TheVariants as callee
use Rattle.es_eval.specs.declared.works.CallWork.TheVariants as call
use Rattle.es_eval.specs.declared.works.OpenCall.{OpenCall}
use Rattle.es_eval.specs.Worlds.{World}
use Rattle.es_eval.specs.Worlds.Run.{Over}
use Rattle.es_eval.specs.devices.Works.{as_completion, as_value, calls_callee, calls_with, does}

-- The run of an action becomes, where the machine is this, that of what comes next, with these items behind
-- it.
pub record Becomes (programs : List ToldProgram) (action : Action Given)
    (old new : MachineState) (next : Now) (items : List Work) : Type 0 where
  pub run : (behind : Next Given) → action (world_of programs old) behind
      ≡ next_run programs next (world_of programs new) (items_rest programs items behind)
  pub rest : (told : List ToldProgram) → rest told new.frames ≡ rest told old.frames
  pub heap : length old.heap ≤ length new.heap
  pub live : AreLive new.heap (values_of_next next)
  pub kept : All (IsWorkLive new.heap) items

-- no item waits
abbrev pub IsClear : Held → Type 0
IsClear held = held.items.items ≡ []

-- ---- expressions

abbrev pub next_of_reached : Reached → Held → Now
next_of_reached (reached_of.Value value) held = now.Gives (given.Value value)
next_of_reached (reached_of.Stopped cause) held = now.Over (Stopped cause)
next_of_reached reached_of.Waits held = held.next

abbrev pub items_of_reached : Reached → Held → List Work
items_of_reached reached_of.Waits held = held.items.items
items_of_reached other held = []

abbrev pub IsClearBehind : Reached → Held → Type 0
IsClearBehind (reached_of.Value value) held = IsClear held
IsClearBehind other held = ⊤

-- what is still to be done
abbrev pub weight_of_held : Held → ℕ
weight_of_held held = 2 * sum_by turns_of held.items.items + weight_of_next held.next

abbrev pub weight_of_reached : Reached → Held → ℕ
weight_of_reached reached_of.Waits held = weight_of_held held
weight_of_reached other held = 1

-- an expression is evaluated so far
pub record Reaches (programs : List ToldProgram) (action : Action Value)
    (old new : MachineState) (reached : Reached) (held : Held) : Type 0 where
  pub becomes : Becomes programs (as_value action) old new (next_of_reached reached held)
      (items_of_reached reached held)
  pub clear : IsClearBehind reached held
  pub less : burden new + weight_of_reached reached held ≤ burden old + 1

-- the same behind a step, which pays for more
pub record ReachesBehind (programs : List ToldProgram) (action : Action Value)
    (old new : MachineState) (reached : Reached) (held : Held) : Type 0 where
  pub becomes : Becomes programs (as_value action) old new (next_of_reached reached held)
      (items_of_reached reached held)
  pub clear : IsClearBehind reached held
  pub less : burden new + weight_of_reached reached held ≤ burden old + 30

-- what is found at once
abbrev pub reached_of_found : Found → Reached
reached_of_found (found_of.Value value) = reached_of.Value value
reached_of_found (found_of.Stopped cause) = reached_of.Stopped cause

-- what waits for the test of a branch
abbrev pub branch_items : Option Code → Option Code → List Work
branch_items (Some first) (Some second) = work.Operand (operand.Choice first second) ∷ []
branch_items (Some right) None = work.Operand (operand.And right) ∷ []
branch_items None (Some right) = work.Operand (operand.Or right) ∷ []
branch_items None None = []

pub record HoldsBranch (first second : Option Code) (reached : Reached) (old new : Held) : Type 0
  where
    pub waits : reached ≡ reached_of.Waits
    pub next : new.next ≡ old.next
    pub items : new.items.items ≡ old.items.items ++ branch_items first second

-- what a built-in answered
abbrev pub reached_of_built : Built → Reached
reached_of_built (built.Value value) = reached_of.Value value
reached_of_built built.NotCallable = reached_of.Stopped NotCallable
reached_of_built built.OverBudget = reached_of.Stopped Budget

-- the member of a base that is called is a built-in method, if anything
abbrev pub IsBuiltIn : List ObjectState → Value → List ℕ → Type 0
IsBuiltIn heap base key =
    (programs : List ToldProgram) (arguments : List Value) (w : World) (next : Next Value)
    → w.heap ≡ heap → calls_callee programs (callee.Member base key) arguments w next
    ≡ by_row (λ heap. method_row heap base key arguments) w next

-- ---- arguments

-- all are there
pub record GathersAll (programs : List ToldProgram) (old new : MachineState)
    (before after : OpenCall) (held : Held) : Type 0 where
  pub run : (next : Next Value)
      → calls_with programs before.callee before.given.items before.call before.next
      (world_of programs old) next
      ≡ calls_callee programs before.callee after.given.items (world_of programs new) next
  pub stays : Stays old new
  pub live : AreLive new.heap after.given.items
  pub clear : IsClear held

-- the script is stopped at one
pub record GathersNone (programs : List ToldProgram) (old new : MachineState) (before : OpenCall)
    (cause : StopCause) : Type 0 where
  pub run : (next : Next Value)
      → calls_with programs before.callee before.given.items before.call before.next
      (world_of programs old) next ≡ Over (Stopped cause) (world_of programs new)
  pub stays : Stays old new

-- one waits, behind those that are there
pub record GathersSome (programs : List ToldProgram) (old new : MachineState)
    (before after : OpenCall) (held : Held) : Type 0 where
  pub run : (next : Next Given)
      → as_value (calls_with programs before.callee before.given.items before.call before.next)
      (world_of programs old) next
      ≡ next_run programs held.next (world_of programs new) (items_rest programs held.items.items
      (λ handed w. does programs (work.Call (call.Argument after)) handed w next))
  pub rest : (told : List ToldProgram) → rest told new.frames ≡ rest told old.frames
  pub heap : length old.heap ≤ length new.heap
  pub given : AreLive new.heap after.given.items
  pub live : AreLive new.heap (values_of_next held.next)
  pub kept : All (IsWorkLive new.heap) held.items.items
  pub less : burden new + weight_of_held held ≤ burden old + 1

abbrev pub Gathers : List ToldProgram → MachineState → MachineState → OpenCall → OpenCall
    → Gathered → Held → Type 0
Gathers programs old new before after gathered_of.All held =
    GathersAll programs old new before after held
Gathers programs old new before after (gathered_of.Stopped cause) held =
    GathersNone programs old new before cause
Gathers programs old new before after gathered_of.Waits held =
    GathersSome programs old new before after held

-- an expression of this shape is evaluated at once
abbrev pub is_direct : List ToldProgram → Shape → Bool
is_direct programs (shape.Typeof operand) = false
is_direct programs (shape.Void operand) = false
is_direct programs (shape.Delete operand) = false
is_direct programs shape.Comma = false
is_direct programs (shape.Stepped in_front down target) = is_name (expression_at programs target)
is_direct programs (shape.Update operator target right) = is_name (expression_at programs target)
is_direct programs other = true

-- ---- statements

abbrev pub next_of_ran : Ran → Held → Now
next_of_ran (ran_of.Given handed) held = now.Gives handed
next_of_ran (ran_of.Stopped cause) held = now.Over (Stopped cause)
next_of_ran ran_of.Waits held = held.next

abbrev pub items_of_ran : Ran → Held → List Work
items_of_ran ran_of.Waits held = held.items.items
items_of_ran other held = []

abbrev pub IsClearAfter : Ran → Held → Type 0
IsClearAfter (ran_of.Given handed) held = IsClear held
IsClearAfter other held = ⊤

abbrev pub weight_of_ran : Ran → Held → ℕ
weight_of_ran (ran_of.Given handed) held = 11
weight_of_ran (ran_of.Stopped cause) held = 0
weight_of_ran ran_of.Waits held = weight_of_held held

-- A statement is run so far, and so much more may be put on the stack than there was to be done.
pub record Runs (programs : List ToldProgram) (more : ℕ) (action : Action Completion)
    (old new : MachineState) (ran : Ran) (held : Held) : Type 0 where
  pub becomes : Becomes programs (as_completion action) old new (next_of_ran ran held)
      (items_of_ran ran held)
  pub clear : IsClearAfter ran held
  pub less : burden new + weight_of_ran ran held ≤ burden old + more

-- An action of statements goes on as another in a new world, where nothing was given yet.
pub record GoesAs (action more : Action Completion) (programs : List ToldProgram)
    (old new : MachineState) : Type 0 where
  pub run : (behind : Next Completion)
      → action (world_of programs old) behind ≡ more (world_of programs new) behind
  pub rest : (told : List ToldProgram) → rest told new.frames ≡ rest told old.frames
  pub heap : length old.heap ≤ length new.heap
  pub less : burden new ≤ burden old

-- A part of a statement is behind it, and the rest comes next; or the statement came so far.
abbrev pub Passes : List ToldProgram → Action Completion → Action Completion → MachineState
    → MachineState → Option Ran → Held → Type 0
Passes programs action more old new None held =
    GoesAs action more programs old new × IsClear held
Passes programs action more old new (Some ran) held = Runs programs 12 action old new ran held
