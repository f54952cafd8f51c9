-- Two bounds that are large enough for the steps that are left: by induction on what both have in
-- common.
use Rattle.std.proofs.Common.{◌≡◌, false, ℕ, zero, suc, ◌+◌, ◌*◌, ◌≤◌, List, arith}
use Rattle.es_values.specs.declared.values.Value.{Value}
use Rattle.es_eval.specs.Actions.{Next, step}
use Rattle.es_eval.specs.Evaluation.{call_body, enough, evaluate, execute, returned}
use Rattle.es_eval.specs.Rows.{Completion, Task}
use Rattle.es_eval.specs.Rows.Task.{Do, Turn, Visit}
use Rattle.es_shapes.specs.Syntax.{Expression, Function, Statement, Statements}
use Rattle.es_eval.specs.Worlds.{World}
use Rattle.es_eval.specs.devices.Bounds.{Agree}
use Rattle.es_eval.proofs.AlikeLemmas.{Alike, Onward, Sooner, behind-alike, gives-alike, sooner-alike, step-sooner}
use Rattle.es_eval.proofs.RowLemmas.{expression_row-alike}
use Rattle.es_eval.proofs.TaskLemmas.{TurnsAlike, need, statements-alike, task_row-alike}

-- what both bounds are enough for is alike
pub record AllAlike (functions : List Function) (room n m : ℕ) : Type 0 where
  pub expressions : (left : ℕ) (e : Expression) → 2 * left + 2 ≤ room
      → Alike left (evaluate functions n e) (evaluate functions m e)
  pub tasks : (left : ℕ) (task : Task) → need left task ≤ room
      → Alike left (execute functions n task) (execute functions m task)
  pub bodies : (left : ℕ) (inner : Statements) → 2 * left + 1 ≤ room
      → Alike left (call_body functions n inner) (call_body functions m inner)

needs_more : {bound : ℕ} (left : ℕ) (task : Task) → need left task ≤ bound → 2 * left + 1 ≤ bound
needs_more left (Do statement) h = omega arith
needs_more left (Turn test update body) h = omega arith
needs_more left (Visit visitor object names body) h = omega arith

module _ (functions : List Function) (room n m : ℕ) (all : AllAlike functions room n m) where
  value-sooner : (left : ℕ) → 2 * left + 1 ≤ suc room → (e : Expression)
      → Sooner left (step (evaluate functions n e)) (step (evaluate functions m e))
  value-sooner left h e = step-sooner (λ less l. all.expressions less e (omega arith))

  statement-sooner : (left : ℕ) → 2 * left + 1 ≤ suc room → (s : Statement)
      → Sooner left (step (execute functions n (Do s))) (step (execute functions m (Do s)))
  statement-sooner left h s = step-sooner (λ less l. all.tasks less (Do s) (omega arith))

  turns-alike : TurnsAlike room (execute functions n) (execute functions m)
  turns-alike = record { within = all.tasks }

  more_expressions : (left : ℕ) (e : Expression) → 2 * left + 2 ≤ suc room
      → Alike left (evaluate functions (suc n) e) (evaluate functions (suc m) e)
  unfolding evaluate
  more_expressions left e h =
      expression_row-alike functions left (call_body functions n) (call_body functions m)
      (λ inner. all.bodies left inner (omega arith))
      (λ part. step (evaluate functions n part)) (λ part. step (evaluate functions m part))
      (λ part. sooner-alike (value-sooner left (omega arith) part)) e

  more_tasks : (left : ℕ) (task : Task) → need left task ≤ suc room
      → Alike left (execute functions (suc n) task) (execute functions (suc m) task)
  unfolding execute
  more_tasks left task h =
      task_row-alike room left
      (λ part. step (evaluate functions n part)) (λ part. step (evaluate functions m part))
      (λ part. step (execute functions n (Do part))) (λ part. step (execute functions m (Do part)))
      (execute functions n) (execute functions m)
      (λ part. sooner-alike (value-sooner left (needs_more left task h) part))
      (statement-sooner left (needs_more left task h)) turns-alike task h

  more_bodies : (left : ℕ) (inner : Statements) → 2 * left + 1 ≤ suc room
      → Alike left (call_body functions (suc n) inner) (call_body functions (suc m) inner)
  unfolding call_body
  more_bodies left inner h = behind-alike
      (statements-alike (λ part. step (execute functions n (Do part)))
      (λ part. step (execute functions m (Do part)))
      (λ part. sooner-alike (statement-sooner left h part)) inner)
      (λ completion. gives-alike (returned completion))

pub all-alike : (functions : List Function) (room n m : ℕ) → room ≤ n → room ≤ m
    → AllAlike functions room n m
all-alike functions zero n m h l = record {
  expressions = λ left e small. absurd (omega arith);
  tasks = λ left task small.
      let more : 2 * left + 1 ≤ 0 = needs_more left task small in absurd (omega arith);
  bodies = λ left inner small. absurd (omega arith);
}
all-alike functions (suc room) zero m h l = absurd (omega arith)
all-alike functions (suc room) (suc n) zero h l = absurd (omega arith)
all-alike functions (suc room) (suc n) (suc m) h l =
    let all = all-alike functions room n m (omega arith) (omega arith) in record {
      expressions = more_expressions functions room n m all;
      tasks = more_tasks functions room n m all;
      bodies = more_bodies functions room n m all;
    }

-- ---- what a bound that is enough gives

pub agree-onward : {A : Type 0} {left : ℕ} {next other : Next A} → Agree left next other
    → Onward false left next other
agree-onward agree = record {
  on = λ x w h. record { run = agree.on x w h; ends = λ asked. cc };
}

pub expressions-bound : (functions : List Function) (n m : ℕ) (e : Expression) (w : World)
    (next other : Next Value) → enough w.left ≤ n → enough w.left ≤ m → Agree w.left next other
    → evaluate functions n e w next ≡ evaluate functions m e w other
expressions-bound functions n m e w next other h l agree =
    (((all-alike functions (enough w.left) n m h l).expressions w.left e (omega arith)).same false w
    (omega arith) next other (agree-onward agree)).run

pub need-enough : (left : ℕ) (task : Task) → need left task ≤ enough left
need-enough left (Do statement) = omega arith
need-enough left (Turn test update body) = omega arith
need-enough left (Visit visitor object names body) = omega arith

pub tasks-bound : (functions : List Function) (n m : ℕ) (task : Task) (w : World)
    (next other : Next Completion) → enough w.left ≤ n → enough w.left ≤ m
    → Agree w.left next other → execute functions n task w next ≡ execute functions m task w other
tasks-bound functions n m task w next other h l agree =
    (((all-alike functions (enough w.left) n m h l).tasks w.left task
    (need-enough w.left task)).same false w (omega arith) next other (agree-onward agree)).run

pub bodies-bound : (functions : List Function) (n m : ℕ) (inner : Statements) (w : World)
    (next other : Next Value) → enough w.left ≤ n → enough w.left ≤ m → Agree w.left next other
    → call_body functions n inner w next ≡ call_body functions m inner w other
bodies-bound functions n m inner w next other h l agree =
    (((all-alike functions (enough w.left) n m h l).bodies w.left inner (omega arith)).same false w
    (omega arith) next other (agree-onward agree)).run
