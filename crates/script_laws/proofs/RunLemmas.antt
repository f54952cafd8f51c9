-- Runs of programs and of globals keep that all values are known, and hand over only such ones.
use Rattle.std.proofs.Common.{ℕ, zero, suc, ◌+◌, ◌≤◌, Bool, true, false, List, [], ◌∷◌, length, take, get_or, refl, subst, arith}
use Rattle.std.proofs.lemmas.List.Elements.{All-nil}
use Rattle.std.proofs.lemmas.List.Folds.{length-flat_map-take}
use Rattle.std.proofs.lemmas.Option.{get_or_from_slice_get, slice_get_within}
use Rattle.std.specs.Prelude.{◌≡◌, Option, Some, None, is_some, if◌then◌else◌, slice_get}
use Rattle.std.specs.Option.{option_map_or}
use Rattle.es_values.specs.declared.values.Value.{Value}
use Rattle.es_values.specs.declared.values.Value.TheVariants.{Undefined, Function as FunctionValue}
use Rattle.es_values.specs.Heaps.{with_value}
use Rattle.es_values.specs.Objects.{ObjectState}
use Rattle.es_eval.specs.declared.outcomes.Outcome.TheVariants.{Normal as AtEnd, Stopped}
use Rattle.es_eval.specs.declared.outcomes.StopCause.TheVariants.{Budget, Unresolved}
use Rattle.es_eval.specs.Actions.{step}
use Rattle.es_eval.specs.Calls.{call_value}
use Rattle.es_shapes.specs.Functions.{first_function}
use Rattle.es_eval.specs.Evaluation.{all_functions, call_body, ends_normally, enough, evaluate, execute, global_run, global_run_by, program_run, program_run_by, returned, run_at, started, with_functions, with_new_name, with_variables, world}
use Rattle.es_eval.specs.Rows.{Completion, Task}
use Rattle.es_eval.specs.Rows.Completion.{Normal, Broke, Continued, Returned}
use Rattle.es_eval.specs.Rows.Task.{Do}
use Rattle.script_laws.specs.Soundness.{HasNumbers, function_limit}
use Rattle.es_shapes.specs.Syntax.{Expression, Function, Program, Statement, Statements}
use Rattle.es_eval.specs.Worlds.{World, global}
use Rattle.es_eval.specs.Worlds.Run.{Over}
use Rattle.script_laws.specs.Passing.{PassesOwn}
use Rattle.script_laws.specs.Staying.{AreFit, StaysWithin}
use Rattle.script_laws.proofs.ListLemmas.{written-holds}
use Rattle.script_laws.proofs.StateLemmas.{EntriesKnown, Fine, Keeps, Known, LiveLaws, Onward, Setting, Stays, behind-keeps, entries-known, function-known, over, simple-known, step-keeps, stops-keeps, value-keeps}
use Rattle.script_laws.proofs.CallLemmas.{call_value-keeps}
use Rattle.script_laws.proofs.ExpressionLemmas.{expression_row-keeps}
use Rattle.script_laws.proofs.StatementLemmas.{CompletionKnown, Completes, statements-keep, task_row-keeps}

-- ---- by any bound

pub record AllKeep (s : Setting) (functions : List Function) (bound : ℕ) : Type 0 where
  pub expressions : (e : Expression) → Keeps s 0 (Known s) (evaluate functions bound e)
  pub tasks : (task : Task) → Completes s (execute functions bound task)
  pub bodies : (inner : Statements) → Keeps s 0 (Known s) (call_body functions bound inner)

module _ (s : Setting) (functions : List Function) where
  returned-known : (count : ℕ) (completion : Completion) → CompletionKnown s count completion
      → Known s count (returned completion)
  returned-known count (Returned value) known = known
  returned-known count Normal known = simple-known s count Undefined refl
  returned-known count Broke known = simple-known s count Undefined refl
  returned-known count Continued known = simple-known s count Undefined refl

  no-bound : AllKeep s functions 0
  unfolding evaluate execute call_body
  no-bound = record {
    expressions = λ e. stops-keeps s Budget;
    tasks = λ task. stops-keeps s Budget;
    bodies = λ inner. stops-keeps s Budget;
  }

  statement-keeps : (bound : ℕ) → AllKeep s functions bound → (statement : Statement)
      → Completes s (step (execute functions bound (Do statement)))
  statement-keeps bound all statement = step-keeps s (all.tasks (Do statement))

  value-keeps_by : (bound : ℕ) → AllKeep s functions bound → (e : Expression)
      → Keeps s 0 (Known s) (step (evaluate functions bound e))
  value-keeps_by bound all e = step-keeps s (all.expressions e)

  more-bound : (bound : ℕ) → AllKeep s functions bound → AllKeep s functions (suc bound)
  unfolding evaluate execute call_body
  more-bound bound all = record {
    expressions = λ e. expression_row-keeps s functions (call_body functions bound) all.bodies
        (λ part. step (evaluate functions bound part)) (value-keeps_by bound all) e;
    tasks = λ task. task_row-keeps s (λ part. step (evaluate functions bound part))
        (λ part. step (execute functions bound (Do part))) (execute functions bound)
        (value-keeps_by bound all) (statement-keeps bound all) all.tasks task;
    bodies = λ inner. behind-keeps s
        (statements-keep s (λ part. step (execute functions bound (Do part)))
        (statement-keeps bound all) inner)
        (λ more h completion known. value-keeps s (returned completion)
        (returned-known more completion known));
  }

  pub all-keep : (bound : ℕ) → AllKeep s functions bound
  all-keep zero = no-bound
  all-keep (suc bound) = more-bound bound (all-keep bound)

-- ---- before a program's first statement

module _ (s : Setting) where
  declared-known : (count number : ℕ) (functions : List Function)
      (globals : List (List ℕ × Value)) → number + length functions ≤ s.limit
      → EntriesKnown s count globals
      → EntriesKnown s count (with_functions number functions globals)
  declared-known count number [] globals h known = known
  declared-known count number (function ∷ functions) globals h known =
      declared-known count (number + 1) functions
      (with_value globals function.name (FunctionValue number)) (omega arith)
      (written-holds (Known s count) globals function.name (FunctionValue number) known
      (function-known s count number (omega arith)))

  with_globals-fine : (w : World) (globals : List (List ℕ × Value))
      → EntriesKnown s (length w.heap) globals → Fine s w → Fine s (record w { globals = globals })
  with_globals-fine w globals known fine = record {
    globals = known;
    locals = fine.locals;
    this = fine.this;
    heap = fine.heap;
    objects = fine.objects;
  }

  new_name-fine : (name : List ℕ) (w : World) → Fine s w → Fine s (with_new_name w name)
  new_name-fine name w fine = go (is_some (global w name))
    where
      go : (there : Bool) → Fine s (if there then w
          else record w { globals = with_value w.globals name Undefined })
      go true = fine
      go false = with_globals-fine w (with_value w.globals name Undefined)
          (written-holds (Known s (length w.heap)) w.globals name Undefined fine.globals
          (simple-known s (length w.heap) Undefined refl))
          fine

  variables-fine : (names : List (List ℕ)) (w : World) → Fine s w → Fine s (with_variables names w)
  variables-fine [] w fine = fine
  variables-fine (name ∷ names) w fine =
      variables-fine names (with_new_name w name) (new_name-fine name w fine)

  started-fine : (functions : ℕ) (program : Program) (w : World)
      → first_function + functions + length program.functions ≤ s.limit → Fine s w
      → Fine s (started functions program w)
  started-fine functions program w h fine =
      let globals = with_functions (first_function + functions) program.functions w.globals in
      variables-fine program.variables (record w { globals = globals })
      (with_globals-fine w globals
      (declared-known (length w.heap) (first_function + functions) program.functions w.globals h
      fine.globals)
      fine)

  -- ---- runs

  world-fine : (globals : List (List ℕ × Value)) (heap : List ObjectState) (budget : ℕ)
      → AreFit s.good s.least globals heap → Fine s (world globals heap budget)
  world-fine globals heap budget fit = record {
    globals = entries-known s (length heap) globals fit.live fit.pass;
    locals = All-nil (λ entry. Known s (length heap) entry.1);
    this = simple-known s (length heap) Undefined refl;
    heap = fit.fit;
    objects = fit.objects;
  }

  ends-onward : {A : Type 0} {count : ℕ} {Result : ℕ → A → Type 0}
      → Onward s count Result (ends_normally {A = A})
  ends-onward = record { on = λ x w fine h known. over s w fine }

  program-stays : (programs before : List Program) (program : Program)
      (globals : List (List ℕ × Value)) (heap : List ObjectState) (budget : ℕ)
      → first_function + length (all_functions before) + length program.functions ≤ s.limit
      → AreFit s.good s.least globals heap
      → Stays s (program_run programs before program globals heap budget)
  unfolding program_run program_run_by
  program-stays programs before program globals heap budget h fit =
      let functions = all_functions programs in
      let w = world globals heap budget in
      (statements-keep s {count = 0} (λ part. step (execute functions (enough budget) (Do part)))
      (statement-keeps s functions (enough budget) (all-keep s functions (enough budget)))
      program.body).ends (started (length (all_functions before)) program w)
      (started-fine (length (all_functions before)) program w h
      (world-fine globals heap budget fit))
      (omega arith) ends_normally ends-onward

  global-stays : (programs : List Program) (name : List ℕ) (globals : List (List ℕ × Value))
      (heap : List ObjectState) (budget : ℕ) → AreFit s.good s.least globals heap
      → Stays s (global_run programs name globals heap budget)
  unfolding global_run global_run_by
  global-stays programs name globals heap budget fit = go (global w name)
    where
      w : World
      w = world globals heap budget

      fine : Fine s w
      fine = world-fine globals heap budget fit

      go : (found : Option Value)
          → Stays s (option_map_or (λ value. call_value (all_functions programs)
          (call_body (all_functions programs) (enough budget)) value []
          (world globals heap budget) ends_normally) found
          (Over (Stopped Unresolved) (world globals heap budget)))
      go None = over s w fine
      go (Some value) =
          (call_value-keeps s (all_functions programs)
          (call_body (all_functions programs) (enough budget))
          (all-keep s (all_functions programs) (enough budget)).bodies value []
          (All-nil (Known s 0))).ends w fine (omega arith) ends_normally ends-onward

-- the setting of programs' runs over a heap
setting : LiveLaws → (good : Value → Bool) → (programs : List Program)
    → PassesOwn (function_limit programs) good → ℕ → Setting
unfolding first_function
setting laws good programs own least = record {
  good = good;
  limit = function_limit programs;
  least = least;
  built_in = omega arith;
  own = own;
  laws = laws;
}

module _ (laws : LiveLaws) (good : Value → Bool) where
  pub program-within : (least : ℕ) (programs before : List Program) (program : Program)
      (globals : List (List ℕ × Value)) (heap : List ObjectState) (budget : ℕ)
      → PassesOwn (function_limit programs) good → HasNumbers programs before program
      → AreFit good least globals heap
      → StaysWithin good least (program_run programs before program globals heap budget)
  unfolding setting
  program-within least programs before program globals heap budget own numbers fit =
      program-stays (setting laws good programs own least) programs before program globals heap
      budget (omega arith) fit

  pub global-within : (least : ℕ) (programs : List Program) (name : List ℕ)
      (globals : List (List ℕ × Value)) (heap : List ObjectState) (budget : ℕ)
      → PassesOwn (function_limit programs) good → AreFit good least globals heap
      → StaysWithin good least (global_run programs name globals heap budget)
  unfolding setting
  global-within least programs name globals heap budget own fit =
      global-stays (setting laws good programs own least) programs name globals heap budget fit

-- a program that stands among programs has its functions among theirs
numbers-at : (programs : List Program) (place : ℕ) (program : Program)
    → slice_get programs place ≡ Some program
    → HasNumbers programs (take place programs) program
numbers-at programs place program there =
    let within : length (all_functions (take place programs))
    + length (get_or programs place program).functions ≤ length (all_functions programs) =
    length-flat_map-take (λ program. program.functions) programs place program
    (slice_get_within programs place program there) in
    let same : get_or programs place program ≡ program =
    get_or_from_slice_get programs place program program there in
    subst (λ p. length (all_functions (take place programs)) + length p.functions
    ≤ length (all_functions programs)) same within

module _ (laws : LiveLaws) (good : Value → Bool) where
  pub place-within : (least : ℕ) (programs : List Program) (place : ℕ)
      (globals : List (List ℕ × Value)) (heap : List ObjectState) (budget : ℕ)
      → PassesOwn (function_limit programs) good → AreFit good least globals heap
      → StaysWithin good least (run_at programs place globals heap budget)
  unfolding run_at
  place-within least programs place globals heap budget own fit =
      go (slice_get programs place) refl
    where
      go : (found : Option Program) → slice_get programs place ≡ found
          → StaysWithin good least
          (option_map_or
          (λ program. program_run programs (take place programs) program globals heap budget) found
          (Over AtEnd (world globals heap budget)))
      go None there = fit
      go (Some program) there =
          program-within laws good least programs (take place programs) program globals heap budget
          own (numbers-at programs place program there) fit
