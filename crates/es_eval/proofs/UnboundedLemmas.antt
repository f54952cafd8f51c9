-- Evaluation without bounds unfolds to its rows: each bound that is enough is alike to none.
use Rattle.std.proofs.Common.{◌≡◌, false, ℕ, suc, ◌+◌, ◌≤◌, List, [], length, ◌∙◌, refl, arith}
use Rattle.std.specs.Prelude.{Option, Some, None}
use Rattle.std.specs.Option.{option_map_or}
use Rattle.es_values.specs.declared.values.Value.{Value}
use Rattle.es_values.specs.Objects.{ObjectState}
use Rattle.es_eval.specs.declared.outcomes.Outcome.TheVariants.{Stopped}
use Rattle.es_eval.specs.declared.outcomes.StopCause.TheVariants.{Unresolved}
use Rattle.es_eval.specs.Actions.{Action, Next, behind, gives, step}
use Rattle.es_eval.specs.devices.Bounds.{Agree}
use Rattle.es_eval.specs.Calls.{call_value}
use Rattle.es_eval.specs.Evaluation.{all_functions, call_body, ends_normally, enough, evaluate, execute, global_run, global_run_by, program_run, program_run_by, returned, started, world}
use Rattle.es_eval.specs.Rows.{Completion, Task, expression_row, statements, task_row}
use Rattle.es_eval.specs.Rows.Task.{Do, Turn, Visit}
use Rattle.es_shapes.specs.Syntax.{Expression, Function, Program, Statement, Statements}
use Rattle.es_eval.specs.Unbounded.{called, done, entered, run_statement, valued}
use Rattle.es_eval.specs.Worlds.{World, global}
use Rattle.es_eval.specs.Worlds.Run.{Over}
use Rattle.es_eval.proofs.AlikeLemmas.{Alike, Sooner, behind-alike, gives-alike, sooner-alike, step-sooner}
use Rattle.es_eval.proofs.BoundLemmas.{agree-onward, all-alike, bodies-bound, expressions-bound, need-enough, tasks-bound}
use Rattle.es_eval.proofs.CallLemmas.{call_value-alike}
use Rattle.es_eval.proofs.RowLemmas.{expression_row-alike}
use Rattle.es_eval.proofs.RunLemmas.{started-left}
use Rattle.es_eval.proofs.TaskLemmas.{TurnsAlike, need, statements-alike, task_row-alike}

same-agree : {A : Type 0} (left : ℕ) (next : Next A) → Agree left next next
same-agree left next = record { on = λ x w h. refl }

-- what is alike is one run behind which the same comes
alike-run : {A : Type 0} {first second : Action A} (w : World) (next : Next A)
    → Alike w.left first second → first w next ≡ second w next
alike-run w next alike =
    (alike.same false w (omega arith) next next (agree-onward (same-agree w.left next))).run

-- ---- a bound that is enough, and none

need-less : {less left : ℕ} (task : Task) → less ≤ left → need less task ≤ need left task
need-less (Do statement) h = omega arith
need-less (Turn test update body) h = omega arith
need-less (Visit visitor object names body) h = omega arith

module _ (functions : List Function) (n : ℕ) where
  valued-alike : (left : ℕ) (e : Expression) → enough left ≤ n
      → Alike left (evaluate functions n e) (valued functions e)
  unfolding valued
  valued-alike left e h = record {
    same = λ counted w l next other onward.
        let all = all-alike functions (enough w.left) n (enough w.left) (omega arith)
        (omega arith) in
        (all.expressions w.left e (omega arith)).same counted w (omega arith) next other onward;
    further = λ more w l next other on.
        let steps = w.left + more in
        let all = all-alike functions (enough steps) n (enough steps) (omega arith)
        (omega arith) in
        (all.expressions steps e (omega arith)).further more w (omega arith) next other on;
  }

  done-alike : (left : ℕ) (task : Task) → need left task ≤ n
      → Alike left (execute functions n task) (done functions task)
  unfolding done
  done-alike left task h = record {
    same = λ counted w l next other onward.
        let less = need-less {less = w.left} {left = left} task l in
        let fits = need-enough w.left task in
        let all = all-alike functions (need w.left task) n (enough w.left) (omega arith)
        (omega arith) in
        (all.tasks w.left task (omega arith)).same counted w (omega arith) next other onward;
    further = λ more w l next other on.
        let steps = w.left + more in
        let less = need-less {less = steps} {left = left} task l in
        let fits = need-enough steps task in
        let all = all-alike functions (need steps task) n (enough steps) (omega arith)
        (omega arith) in
        (all.tasks steps task (omega arith)).further more w (omega arith) next other on;
  }

  called-alike : (left : ℕ) (inner : Statements) → enough left ≤ n
      → Alike left (call_body functions n inner) (called functions inner)
  unfolding called
  called-alike left inner h = record {
    same = λ counted w l next other onward.
        let all = all-alike functions (enough w.left) n (enough w.left) (omega arith)
        (omega arith) in
        (all.bodies w.left inner (omega arith)).same counted w (omega arith) next other onward;
    further = λ more w l next other on.
        let steps = w.left + more in
        let all = all-alike functions (enough steps) n (enough steps) (omega arith)
        (omega arith) in
        (all.bodies steps inner (omega arith)).further more w (omega arith) next other on;
  }

  entered-sooner : (left : ℕ) (e : Expression) → enough left ≤ n
      → Sooner left (step (evaluate functions n e)) (entered functions e)
  entered-sooner left e h = step-sooner (λ less l. valued-alike less e (omega arith))

  statement-sooner : (left : ℕ) (s : Statement) → enough left ≤ n
      → Sooner left (step (execute functions n (Do s))) (run_statement functions s)
  statement-sooner left s h = step-sooner (λ less l. done-alike less (Do s) (omega arith))

-- ---- rows

pub valued-row : (functions : List Function) (e : Expression) (w : World) (next : Next Value)
    → valued functions e w next
    ≡ expression_row functions (called functions) (entered functions) e w next
unfolding valued evaluate
valued-row functions e w next =
    let n = enough w.left in
    expressions-bound functions n (suc n) e w next next (omega arith) (omega arith)
    (same-agree w.left next)
    ∙ alike-run w next (expression_row-alike functions w.left (call_body functions n)
    (called functions) (λ inner. called-alike functions n w.left inner (omega arith))
    (λ part. step (evaluate functions n part)) (entered functions)
    (λ part. sooner-alike (entered-sooner functions n w.left part (omega arith))) e)

pub done-row : (functions : List Function) (task : Task) (w : World) (next : Next Completion)
    → done functions task w next
    ≡ task_row (entered functions) (run_statement functions) (done functions) task w next
unfolding done execute
done-row functions task w next =
    let n = enough w.left in
    let fits = need-enough w.left task in
    let turns : TurnsAlike n (execute functions n) (done functions)
    = record { within = done-alike functions n } in
    tasks-bound functions n (suc n) task w next next (omega arith) (omega arith)
    (same-agree w.left next)
    ∙ alike-run w next (task_row-alike n w.left (λ part. step (evaluate functions n part))
    (entered functions) (λ part. step (execute functions n (Do part))) (run_statement functions)
    (execute functions n) (done functions)
    (λ part. sooner-alike (entered-sooner functions n w.left part (omega arith)))
    (λ part. statement-sooner functions n w.left part (omega arith)) turns task (omega arith))

pub called-row : (functions : List Function) (inner : Statements) (w : World) (next : Next Value)
    → called functions inner w next
    ≡ behind (statements (run_statement functions) inner)
    (λ completion. gives (returned completion)) w next
unfolding called call_body
called-row functions inner w next =
    let n = enough w.left in
    bodies-bound functions n (suc n) inner w next next (omega arith) (omega arith)
    (same-agree w.left next)
    ∙ alike-run w next (behind-alike
    (statements-alike (λ part. step (execute functions n (Do part))) (run_statement functions)
    (λ part. sooner-alike (statement-sooner functions n w.left part (omega arith))) inner)
    (λ completion. gives-alike (returned completion)))

-- ---- runs

pub program-unbounded : (programs before : List Program) (program : Program)
    (globals : List (List ℕ × Value)) (heap : List ObjectState) (budget : ℕ)
    → program_run programs before program globals heap budget
    ≡ statements (run_statement (all_functions programs)) program.body
    (started (length (all_functions before)) program (world globals heap budget)) ends_normally
unfolding program_run program_run_by
program-unbounded programs before program globals heap budget =
    let functions = all_functions programs in
    let first = started (length (all_functions before)) program (world globals heap budget) in
    let left : first.left ≡ budget = started-left _ program (world globals heap budget) in
    alike-run first ends_normally (statements-alike
    (λ part. step (execute functions (enough budget) (Do part))) (run_statement functions)
    (λ part. sooner-alike (statement-sooner functions (enough budget) first.left part
    (omega arith))) program.body)

pub global-unbounded : (programs : List Program) (name : List ℕ)
    (globals : List (List ℕ × Value)) (heap : List ObjectState) (budget : ℕ)
    → global_run programs name globals heap budget
    ≡ (let functions = all_functions programs in
    let w = world globals heap budget in
    option_map_or (λ value. call_value functions (called functions) value [] w ends_normally)
    (global w name) (Over (Stopped Unresolved) w))
unfolding global_run global_run_by
global-unbounded programs name globals heap budget = go (global (world globals heap budget) name)
  where
    go : (found : Option Value)
        → option_map_or (λ value. call_value (all_functions programs)
        (call_body (all_functions programs) (enough budget)) value []
        (world globals heap budget) ends_normally) found
        (Over (Stopped Unresolved) (world globals heap budget))
        ≡ option_map_or (λ value. call_value (all_functions programs)
        (called (all_functions programs)) value [] (world globals heap budget) ends_normally) found
        (Over (Stopped Unresolved) (world globals heap budget))
    go None = refl
    go (Some value) = alike-run (world globals heap budget) ends_normally
        (call_value-alike (all_functions programs) budget
        (call_body (all_functions programs) (enough budget)) (called (all_functions programs))
        (λ inner. called-alike (all_functions programs) (enough budget) budget inner (omega arith))
        value [])
