-- Runs of programs and of globals: their bound doesn't matter where it is enough, and no end has
-- more steps left than there were.
use Rattle.std.proofs.Common.{◌≡◌, ℕ, ◌+◌, ◌≤◌, Bool, true, false, List, [], ◌∷◌, length, refl, subst, ◌∙◌, arith}
use Rattle.std.specs.Prelude.{Option, Some, None, is_some, if◌then◌else◌}
use Rattle.std.specs.Option.{option_map_or}
use Rattle.es_values.specs.declared.hosts.HostAnswer.{HostAnswer}
use Rattle.es_values.specs.declared.values.HostRef.{HostRef}
use Rattle.es_values.specs.declared.values.Value.{Value}
use Rattle.es_values.specs.declared.values.Value.TheVariants.{Undefined}
use Rattle.es_values.specs.Heaps.{with_value}
use Rattle.es_values.specs.Objects.{ObjectState}
use Rattle.es_eval.specs.declared.outcomes.Outcome.{Outcome}
use Rattle.es_eval.specs.declared.outcomes.Outcome.TheVariants.{Normal as AtEnd, Stopped}
use Rattle.es_eval.specs.declared.outcomes.StopCause.TheVariants.{Unresolved}
use Rattle.es_eval.specs.Actions.{step}
use Rattle.es_eval.specs.Calls.{call_value}
use Rattle.es_shapes.specs.Functions.{first_function}
use Rattle.es_eval.specs.Endings.{MayEnd}
use Rattle.es_eval.specs.Evaluation.{all_functions, call_body, ends_normally, enough, execute, global_run, global_run_by, program_run, program_run_by, started, with_functions, with_new_name, with_variables, world}
use Rattle.es_eval.specs.Rows.Task.{Do}
use Rattle.es_shapes.specs.Syntax.{Function, Program, Statement}
use Rattle.es_eval.specs.Worlds.{World, Run, global}
use Rattle.es_eval.specs.Worlds.Run.{Over, Reads, Writes, Calls}
use Rattle.es_eval.proofs.AlikeLemmas.{Alike, EndsWithin, Onward, Same, over-same, same_more, sooner-alike, step-sooner}
use Rattle.es_eval.proofs.BoundLemmas.{all-alike}
use Rattle.es_eval.proofs.CallLemmas.{call_value-alike}
use Rattle.es_eval.proofs.TaskLemmas.{statements-alike}

-- ---- the start of a program takes no step

new_name-left : (name : List ℕ) (w : World) → (with_new_name w name).left ≡ w.left
new_name-left name w = go (is_some (global w name))
  where
    go : (known : Bool) → (if known then w
        else record w { globals = with_value w.globals name Undefined }).left ≡ w.left
    go true = refl
    go false = refl

variables-left : (names : List (List ℕ)) (w : World) → (with_variables names w).left ≡ w.left
variables-left [] w = refl
variables-left (name ∷ names) w =
    variables-left names (with_new_name w name) ∙ new_name-left name w

pub started-left : (functions : ℕ) (program : Program) (w : World)
    → (started functions program w).left ≡ w.left
started-left functions program w =
    variables-left program.variables (record w {
      globals = with_functions (first_function + functions) program.functions w.globals;
    })

-- ---- runs with bounds that are enough

pub entered-alike : (n m : ℕ) (functions : List Function) (left : ℕ) → enough left ≤ n → enough left ≤ m
    → (s : Statement)
    → Alike left (step (execute functions n (Do s))) (step (execute functions m (Do s)))
entered-alike n m functions left h l s = sooner-alike (step-sooner (λ less small.
    (all-alike functions (enough left) n m h l).tasks less (Do s) (omega arith)))

ends-onward : {A : Type 0} {counted : Bool} {left : ℕ}
    → Onward {A = A} counted left ends_normally ends_normally
ends-onward = record { on = λ x w h. over-same AtEnd w (omega arith) }

pub program-same : (counted : Bool) (n m : ℕ) (programs before : List Program) (program : Program)
    (globals : List (List ℕ × Value)) (heap : List ObjectState) (budget : ℕ)
    → enough budget ≤ n → enough budget ≤ m
    → Same counted budget (program_run_by n programs before program globals heap budget)
    (program_run_by m programs before program globals heap budget)
unfolding program_run_by
program-same counted n m programs before program globals heap budget h l =
    let functions = all_functions programs in
    let first = started (length (all_functions before)) program (world globals heap budget) in
    let left : first.left ≡ budget = started-left _ program (world globals heap budget) in
    let alike = statements-alike (λ s. step (execute functions n (Do s)))
    (λ s. step (execute functions m (Do s))) (entered-alike n m functions budget h l)
    program.body in
    same_more (omega arith)
    (alike.same counted first (omega arith) ends_normally ends_normally ends-onward)

called-same : (counted : Bool) (n m : ℕ) (functions : List Function) (found : Option Value)
    (w : World) → enough w.left ≤ n → enough w.left ≤ m
    → Same counted w.left
    (option_map_or (λ value. call_value functions (call_body functions n) value [] w ends_normally)
    found (Over (Stopped Unresolved) w))
    (option_map_or (λ value. call_value functions (call_body functions m) value [] w ends_normally)
    found (Over (Stopped Unresolved) w))
called-same counted n m functions None w h l = over-same (Stopped Unresolved) w (omega arith)
called-same counted n m functions (Some value) w h l =
    let all = all-alike functions (enough w.left) n m h l in
    let alike = call_value-alike functions w.left (call_body functions n) (call_body functions m)
    (λ inner. all.bodies w.left inner (omega arith)) value [] in
    alike.same counted w (omega arith) ends_normally ends_normally ends-onward

pub global-same : (counted : Bool) (n m : ℕ) (programs : List Program) (name : List ℕ)
    (globals : List (List ℕ × Value)) (heap : List ObjectState) (budget : ℕ)
    → enough budget ≤ n → enough budget ≤ m
    → Same counted budget (global_run_by n programs name globals heap budget)
    (global_run_by m programs name globals heap budget)
unfolding global_run_by
global-same counted n m programs name globals heap budget h l =
    called-same counted n m (all_functions programs) (global (world globals heap budget) name)
    (world globals heap budget) h l

-- ---- the two laws

pub program-bound : (n : ℕ) (programs before : List Program) (program : Program)
    (globals : List (List ℕ × Value)) (heap : List ObjectState) (budget : ℕ) → enough budget ≤ n
    → program_run programs before program globals heap budget
    ≡ program_run_by n programs before program globals heap budget
unfolding program_run program_run_by
program-bound n programs before program globals heap budget h =
    (program-same false (enough budget) n programs before program globals heap budget
    (omega arith) h).run

pub global-bound : (n : ℕ) (programs : List Program) (name : List ℕ)
    (globals : List (List ℕ × Value)) (heap : List ObjectState) (budget : ℕ) → enough budget ≤ n
    → global_run programs name globals heap budget
    ≡ global_run_by n programs name globals heap budget
unfolding global_run global_run_by
global-bound n programs name globals heap budget h =
    (global-same false (enough budget) n programs name globals heap budget (omega arith) h).run

module _ {H : Type 0} (reads : H → HostRef → List ℕ → Value → H → Type 0)
    (writes : H → HostRef → List ℕ → Value → List ObjectState → H → Type 0)
    (calls : H → HostRef → List ℕ → List Value → List ObjectState → HostAnswer → H
    → List ObjectState → Type 0) where
  ends_within : (left : ℕ) (run : Run) → EndsWithin left run → (host : H) (outcome : Outcome)
      (w : World) (after : H) → MayEnd reads writes calls run host outcome w after → w.left ≤ left
  unfolding MayEnd
  ends_within left (Over said v) ends host outcome w after may =
      subst (λ u. u.left ≤ left) may.1 ends
  ends_within left (Reads base name go) ends host outcome w after (value, next, read, plain, rest) =
      ends_within left (go value) (ends value) next outcome w after rest
  ends_within left (Writes base name value heap go) ends host outcome w after
      (next, written, rest) =
      ends_within left go ends next outcome w after rest
  ends_within left (Calls base name arguments heap go) ends host outcome w after
      (answer, next, heap_after, called, answers, keeps, sound, rest) =
      ends_within left (go answer heap_after) (ends answer heap_after) next outcome w after rest

  pub program-steps : (programs before : List Program) (program : Program)
      (globals : List (List ℕ × Value)) (heap : List ObjectState) (budget : ℕ) (host : H)
      (outcome : Outcome) (w : World) (after : H)
      → MayEnd reads writes calls (program_run programs before program globals heap budget) host
      outcome w after → w.left ≤ budget
  unfolding program_run program_run_by
  program-steps programs before program globals heap budget =
      let n = enough budget in
      ends_within budget _ ((program-same true n n programs before program globals heap budget
      (omega arith) (omega arith)).ends refl)

  pub global-steps : (programs : List Program) (name : List ℕ) (globals : List (List ℕ × Value))
      (heap : List ObjectState) (budget : ℕ) (host : H) (outcome : Outcome) (w : World) (after : H)
      → MayEnd reads writes calls (global_run programs name globals heap budget) host outcome w
      after → w.left ≤ budget
  unfolding global_run global_run_by
  global-steps programs name globals heap budget =
      let n = enough budget in
      ends_within budget _ ((global-same true n n programs name globals heap budget (omega arith)
      (omega arith)).ends refl)
