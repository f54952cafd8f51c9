-- Runs with more steps: they ask what runs with fewer steps ask and end as these do, with as many more left,
-- unless these are stopped for want of steps; and what is stopped for want of steps is so with fewer.
use Rattle.std.proofs.Common.{◌≡◌, ℕ, ◌+◌, ◌≤◌, Bool, true, false, List, [], ◌∷◌, length, refl, subst, ap, sym, ◌∙◌, arith}
use Rattle.std.specs.Prelude.{Option, Some, None, is_some, if◌then◌else◌}
use Rattle.std.specs.Option.{option_map_or}
use Rattle.es_values.specs.declared.hosts.HostAnswer.{HostAnswer}
use Rattle.es_values.specs.declared.values.HostRef.{HostRef}
use Rattle.es_values.specs.declared.values.Value.{Value}
use Rattle.es_values.specs.declared.values.Value.TheVariants.{Undefined}
use Rattle.es_values.specs.Heaps.{with_value}
use Rattle.es_values.specs.Objects.{ObjectState}
use Rattle.es_shapes.specs.Functions.{first_function}
use Rattle.es_shapes.specs.Syntax.{Function, Program}
use Rattle.es_eval.specs.declared.outcomes.Outcome.{Outcome}
use Rattle.es_eval.specs.declared.outcomes.Outcome.TheVariants.{Normal as AtEnd, Ended, Stopped}
use Rattle.es_eval.specs.declared.outcomes.StopCause.TheVariants.{Budget, Depth, NotCallable, NotObject, Unresolved}
use Rattle.es_eval.specs.Actions.{step}
use Rattle.es_eval.specs.Calls.{call_value}
use Rattle.es_eval.specs.Endings.{MayEnd, MayRunOut}
use Rattle.es_eval.specs.Evaluation.{all_functions, call_body, ends_normally, enough, execute, global_run, global_run_by, program_run, program_run_by, started, with_functions, with_new_name, with_variables, world}
use Rattle.es_eval.specs.Rows.Task.{Do}
use Rattle.es_eval.specs.Worlds.{World, Run, global, with_more}
use Rattle.es_eval.specs.Worlds.Run.{Over, Reads, Writes, Calls}
use Rattle.es_eval.proofs.AlikeLemmas.{EndsFurther, Further, GoesFurther, over-further}
use Rattle.es_eval.proofs.BoundLemmas.{all-alike}
use Rattle.es_eval.proofs.CallLemmas.{call_value-alike}
use Rattle.es_eval.proofs.RunLemmas.{entered-alike, global-bound, program-bound, started-left}
use Rattle.es_eval.proofs.TaskLemmas.{statements-alike}

-- ---- the start of a program

new_name-more : (name : List ℕ) (more : ℕ) (w : World)
    → with_new_name (with_more more w) name ≡ with_more more (with_new_name w name)
new_name-more name more w = go (is_some (global w name))
  where
    go : (known : Bool) → (if known then with_more more w
        else record (with_more more w) { globals = with_value w.globals name Undefined })
        ≡ with_more more (if known then w
        else record w { globals = with_value w.globals name Undefined })
    go true = refl
    go false = refl

variables-more : (names : List (List ℕ)) (more : ℕ) (w : World)
    → with_variables names (with_more more w) ≡ with_more more (with_variables names w)
variables-more [] more w = refl
variables-more (name ∷ names) more w =
    ap (with_variables names) (new_name-more name more w)
    ∙ variables-more names more (with_new_name w name)

started-more : (functions : ℕ) (program : Program) (more : ℕ) (w : World)
    → started functions program (with_more more w) ≡ with_more more (started functions program w)
started-more functions program more w =
    variables-more program.variables more (record w {
      globals = with_functions (first_function + functions) program.functions w.globals;
    })

-- ---- runs

ends-further : {A : Type 0} (more left : ℕ) → Further {A = A} more left ends_normally ends_normally
ends-further more left = record { on = λ x w h. over-further more AtEnd w }

pub program-further : (programs before : List Program) (program : Program)
    (globals : List (List ℕ × Value)) (heap : List ObjectState) (budget more : ℕ)
    → GoesFurther more (program_run programs before program globals heap budget)
    (program_run programs before program globals heap (budget + more))
unfolding program_run program_run_by
program-further programs before program globals heap budget more =
    let n = enough (budget + more) in
    let functions = all_functions programs in
    let count = length (all_functions before) in
    let w = world globals heap budget in
    let first = started count program w in
    let left : first.left ≡ budget = started-left count program w in
    let alike = statements-alike (λ s. step (execute functions n (Do s)))
    (λ s. step (execute functions n (Do s)))
    (entered-alike n n functions (budget + more) (omega arith) (omega arith)) program.body in
    let on = alike.further more first (omega arith) ends_normally ends_normally
    (ends-further more (first.left + more)) in
    rw (
      program-bound n programs before program globals heap budget (omega arith),
      started-more count program more w,
    ) on

called-further : (n more : ℕ) (functions : List Function) (found : Option Value) (w : World)
    → enough (w.left + more) ≤ n
    → GoesFurther more
    (option_map_or (λ value. call_value functions (call_body functions n) value [] w ends_normally)
    found (Over (Stopped Unresolved) w))
    (option_map_or (λ value. call_value functions (call_body functions n) value []
    (with_more more w) ends_normally) found (Over (Stopped Unresolved) (with_more more w)))
called-further n more functions None w h = refl
called-further n more functions (Some value) w h =
    let all = all-alike functions (enough (w.left + more)) n n h h in
    let alike = call_value-alike functions (w.left + more) (call_body functions n)
    (call_body functions n) (λ inner. all.bodies (w.left + more) inner (omega arith)) value [] in
    alike.further more w (omega arith) ends_normally ends_normally
    (ends-further more (w.left + more))

pub global-further : (programs : List Program) (name : List ℕ)
    (globals : List (List ℕ × Value)) (heap : List ObjectState) (budget more : ℕ)
    → GoesFurther more (global_run programs name globals heap budget)
    (global_run programs name globals heap (budget + more))
unfolding global_run global_run_by
global-further programs name globals heap budget more =
    let n = enough (budget + more) in
    rw (global-bound n programs name globals heap budget (omega arith))
    (called-further n more (all_functions programs) (global (world globals heap budget) name)
    (world globals heap budget) (omega arith))

-- ---- ends

ends-so : (more : ℕ) (said : Outcome) (v : World) (run : Run)
    → (said ≡ Stopped Budget → ⊥) → EndsFurther more said v run
    → run ≡ Over said (with_more more v)
ends-so more AtEnd v run not_stopped ends = ends
ends-so more Ended v run not_stopped ends = ends
ends-so more (Stopped Budget) v run not_stopped ends = absurd (not_stopped refl)
ends-so more (Stopped Depth) v run not_stopped ends = ends
ends-so more (Stopped NotCallable) v run not_stopped ends = ends
ends-so more (Stopped NotObject) v run not_stopped ends = ends
ends-so more (Stopped Unresolved) v run not_stopped ends = ends

module _ {H : Type 0} (reads : H → HostRef → List ℕ → Value → H → Type 0)
    (writes : H → HostRef → List ℕ → Value → List ObjectState → H → Type 0)
    (calls : H → HostRef → List ℕ → List Value → List ObjectState → HostAnswer → H
    → List ObjectState → Type 0) (more : ℕ) where
  pub further-ends : (run other : Run) → GoesFurther more run other → (host : H)
      (outcome : Outcome) (w : World) (after : H) → (outcome ≡ Stopped Budget → ⊥)
      → MayEnd reads writes calls run host outcome w after
      → MayEnd reads writes calls other host outcome (with_more more w) after
  unfolding MayEnd
  further-ends (Over said v) other goes host outcome w after not_stopped may =
      subst (λ run. MayEnd reads writes calls run host outcome (with_more more w) after)
      (sym (ends-so more said v other (λ is. not_stopped (sym may.0 ∙ is)) goes))
      (may.0, ap (with_more more) may.1, may.2)
  further-ends (Reads base name go) other (on, is, each) host outcome w after not_stopped
      (value, next, read, plain, rest) =
      subst (λ run. MayEnd reads writes calls run host outcome (with_more more w) after)
      (sym is)
      (value, next, read, plain, further-ends (go value) (on value) (each value) next outcome w after not_stopped rest)
  further-ends (Writes base name value heap go) other (on, is, each) host outcome w after not_stopped
      (next, written, rest) =
      subst (λ run. MayEnd reads writes calls run host outcome (with_more more w) after)
      (sym is)
      (next, written, further-ends go on each next outcome w after not_stopped rest)
  further-ends (Calls base name arguments heap go) other (on, is, each) host outcome w after not_stopped
      (answer, next, heap_after, called, answers, keeps, sound, rest) =
      subst (λ run. MayEnd reads writes calls run host outcome (with_more more w) after)
      (sym is)
      (answer, next, heap_after, called, answers, keeps, sound, further-ends (go answer heap_after) (on answer heap_after) (each answer heap_after) next outcome w after not_stopped rest)

  over-before : (said : Outcome) (v : World) (other : Run) → EndsFurther more said v other
      → (host : H) (w : World) (after : H)
      → MayEnd reads writes calls other host (Stopped Budget) w after → said ≡ Stopped Budget
  unfolding MayEnd
  over-before said v other goes host w after may = by said goes
    where
      by : (said : Outcome) → EndsFurther more said v other → said ≡ Stopped Budget
      by (Stopped Budget) goes = refl
      by AtEnd goes = (subst (λ run. MayEnd reads writes calls run host (Stopped Budget) w after) goes may).0
      by Ended goes = (subst (λ run. MayEnd reads writes calls run host (Stopped Budget) w after) goes may).0
      by (Stopped Depth) goes = (subst (λ run. MayEnd reads writes calls run host (Stopped Budget) w after) goes may).0
      by (Stopped NotCallable) goes = (subst (λ run. MayEnd reads writes calls run host (Stopped Budget) w after) goes may).0
      by (Stopped NotObject) goes = (subst (λ run. MayEnd reads writes calls run host (Stopped Budget) w after) goes may).0
      by (Stopped Unresolved) goes = (subst (λ run. MayEnd reads writes calls run host (Stopped Budget) w after) goes may).0

  -- what is stopped for want of steps is so with fewer
  pub stopped-before : (run other : Run) → GoesFurther more run other → (host : H) (w : World)
      (after : H) → MayEnd reads writes calls other host (Stopped Budget) w after
      → MayRunOut reads writes calls run host
  unfolding MayEnd
  stopped-before (Over said v) other goes host w after may =
      (v, host, (over-before said v other goes host w after may, refl, refl))
  stopped-before (Reads base name go) other (on, is, each) host w after may =
      let m : MayEnd reads writes calls (Reads base name on) host (Stopped Budget) w after =
      subst (λ (run : Run). MayEnd reads writes calls run host (Stopped Budget) w after) is may in
      let before : MayRunOut reads writes calls (go m.0) m.1 =
      stopped-before (go m.0) (on m.0) (each m.0) m.1 w after m.4 in
      (before.0, before.1, (m.0, m.1, m.2, m.3, before.2))
  stopped-before (Writes base name value heap go) other (on, is, each) host w after may =
      let m : MayEnd reads writes calls (Writes base name value heap on) host (Stopped Budget) w
      after =
      subst (λ (run : Run). MayEnd reads writes calls run host (Stopped Budget) w after) is may in
      let before : MayRunOut reads writes calls go m.0 =
      stopped-before go on each m.0 w after m.2 in
      (before.0, before.1, (m.0, m.1, before.2))
  stopped-before (Calls base name arguments heap go) other (on, is, each) host w after may =
      let m : MayEnd reads writes calls (Calls base name arguments heap on) host (Stopped Budget)
      w after =
      subst (λ (run : Run). MayEnd reads writes calls run host (Stopped Budget) w after) is may in
      let before : MayRunOut reads writes calls (go m.0 m.2) m.1 =
      stopped-before (go m.0 m.2) (on m.0 m.2) (each m.0 m.2) m.1 w after m.7 in
      (before.0, before.1, (m.0, m.1, m.2, m.3, m.4, m.5, m.6, before.2))
