-- Evaluation of programs (ECMA-262 second edition, 10 to 14, in this profile): the rows, with a step for each
-- statement and each node of an expression. A bound makes the recursion end; a script that is within its
-- steps never meets it.
use Rattle.std.specs.Prelude.{ℕ, zero, suc, ◌+◌, ◌*◌, List, [], ◌∷◌, length, take, slice_get, is_some, if◌then◌else◌}
use Rattle.std.specs.List.{flat_map}
use Rattle.std.specs.Option.{option_map_or}
use Rattle.es_values.specs.declared.values.Value.{Value}
use Rattle.es_values.specs.declared.values.Value.TheVariants.{Undefined, Function as FunctionValue}
use Rattle.es_values.specs.Heaps.{with_value}
use Rattle.es_values.specs.Objects.{ObjectState}
use Rattle.es_eval.specs.declared.outcomes.Outcome.TheVariants.{Normal as AtEnd, Stopped}
use Rattle.es_eval.specs.declared.outcomes.StopCause.TheVariants.{Budget, Unresolved}
use Rattle.es_eval.specs.Actions.{Action, behind, gives, step, stops}
use Rattle.es_eval.specs.Calls.{call_value}
use Rattle.es_shapes.specs.Functions.{first_function}
use Rattle.es_eval.specs.Rows.{Completion, Task, expression_row, statements, task_row}
use Rattle.es_eval.specs.Rows.Completion.{Normal, Broke, Continued, Returned}
use Rattle.es_eval.specs.Rows.Task.{Do}
use Rattle.es_shapes.specs.Syntax.{Expression, Statements, Function, Program}
use Rattle.es_eval.specs.Worlds.{World, Run, global}
use Rattle.es_eval.specs.Worlds.Run.{Over}

-- what a completed body returns
abbrev pub returned : Completion → Value
returned (Returned value) = value
returned Normal = Undefined
returned Broke = Undefined
returned Continued = Undefined

unfoldable mutual
  -- an expression, without its own step, by at most so many rows one in the other
  pub evaluate : List Function → ℕ → Expression → Action Value
  evaluate functions zero expression = stops Budget
  evaluate functions (suc bound) expression =
      expression_row functions (call_body functions bound)
      (λ part. step (evaluate functions bound part)) expression

  -- a statement, or the turns of a loop that are left
  pub execute : List Function → ℕ → Task → Action Completion
  execute functions zero task = stops Budget
  execute functions (suc bound) task =
      task_row (λ part. step (evaluate functions bound part))
      (λ part. step (execute functions bound (Do part))) (execute functions bound) task

  -- the statements of a function
  pub call_body : List Function → ℕ → Statements → Action Value
  call_body functions zero inner = stops Budget
  call_body functions (suc bound) inner =
      behind (statements (λ part. step (execute functions bound (Do part))) inner)
      (λ completion. gives (returned completion))

-- ---- programs

-- the functions of programs, one behind the other, as they are numbered
abbrev pub all_functions : List Program → List Function
all_functions programs = flat_map (λ program. program.functions) programs

-- functions become globals under their names, the last of one name
abbrev pub with_functions : ℕ → List Function → List (List ℕ × Value) → List (List ℕ × Value)
with_functions number [] globals = globals
with_functions number (function ∷ functions) globals =
    with_functions (number + 1) functions
    (with_value globals function.name (FunctionValue number))

-- names of `var`s become globals with Undefined where they are new
abbrev pub with_new_name : World → List ℕ → World
with_new_name w name =
    if is_some (global w name) then w
    else record w { globals = with_value w.globals name Undefined }

abbrev pub with_variables : List (List ℕ) → World → World
with_variables [] w = w
with_variables (name ∷ names) w = with_variables names (with_new_name w name)

-- before a program's first statement; so many functions are declared before its own
abbrev pub started : ℕ → Program → World → World
started functions program w =
    with_variables program.variables
    (record w {
      globals = with_functions (first_function + functions) program.functions w.globals;
    })

-- outside of all calls
abbrev pub world : List (List ℕ × Value) → List ObjectState → ℕ → World
world globals heap budget = record {
  globals = globals;
  locals = [];
  this = Undefined;
  depth = 0;
  heap = heap;
  left = budget;
}

-- A bound that is large enough for so many steps: each statement and each node of an expression takes one
-- where it is entered, and so does each turn of a loop; a call's body and a loop take one bound more.
abbrev pub enough : ℕ → ℕ
enough steps = 2 * steps + 2

abbrev pub ends_normally : {A : Type 0} → A → World → Run
ends_normally given w = Over AtEnd w

-- a program among programs, with these globals and objects and so many steps
unfoldable pub program_run_by : ℕ → List Program → List Program → Program
    → List (List ℕ × Value) → List ObjectState → ℕ → Run
program_run_by bound programs before program globals heap budget =
    let functions = all_functions programs in
    statements (λ part. step (execute functions bound (Do part))) program.body
    (started (length (all_functions before)) program (world globals heap budget)) ends_normally

unfoldable pub program_run : List Program → List Program → Program → List (List ℕ × Value)
    → List ObjectState → ℕ → Run
program_run programs before program globals heap budget =
    program_run_by (enough budget) programs before program globals heap budget

-- the program at a place among programs
unfoldable pub run_at : List Program → ℕ → List (List ℕ × Value) → List ObjectState → ℕ → Run
run_at programs place globals heap budget =
    option_map_or
    (λ program. program_run programs (take place programs) program globals heap budget)
    (slice_get programs place) (Over AtEnd (world globals heap budget))

-- a global that is called without arguments
unfoldable pub global_run_by : ℕ → List Program → List ℕ → List (List ℕ × Value)
    → List ObjectState → ℕ → Run
global_run_by bound programs name globals heap budget =
    let functions = all_functions programs in
    let w = world globals heap budget in
    option_map_or
    (λ value. call_value functions (call_body functions bound) value [] w ends_normally)
    (global w name) (Over (Stopped Unresolved) w)

unfoldable pub global_run : List Program → List ℕ → List (List ℕ × Value) → List ObjectState → ℕ
    → Run
global_run programs name globals heap budget =
    global_run_by (enough budget) programs name globals heap budget
