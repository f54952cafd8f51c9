-- Where a script starts and what its run is then, by the numbers of nodes; and that this is what its
-- text comes to.
use Rattle.std.proofs.Common.{◌≡◌, ◌∙◌, ◌<◌, ◌++◌, ℕ, zero, suc, List, [], ◌∷◌, length, ap, subst, sym, refl, arith}
use Rattle.std.specs.Prelude.{Option, Some, None, map, slice_get, take}
use Rattle.std.proofs.lemmas.List.{take-map}
use Rattle.std.proofs.lemmas.Option.{slice_get-map}
use Rattle.es_eval.specs.devices.OpenCalls.{Call, below_last, next_item}
use Rattle.es_reader.specs.Programs.{ToldProgram}
use Rattle.es_reader.specs.Statements.{Item}
use Rattle.es_values.specs.declared.hosts.HostAnswer.{HostAnswer}
use Rattle.es_values.specs.declared.values.HostRef.{HostRef}
use Rattle.es_values.specs.declared.values.Value.{Value}
use Rattle.es_values.specs.declared.values.Value.TheVariants.{Undefined, Null, Bool as Boolean, Number, Str, Object, Function, Host}
use Rattle.es_values.specs.Objects.{ObjectState}
use Rattle.es_shapes.specs.declared.codes.Listing.TheVariants.{Top}
use Rattle.es_eval.specs.declared.outcomes.Outcome.{Outcome}
use Rattle.es_eval.specs.declared.outcomes.Outcome.TheVariants.{Normal as AtEnd, Stopped}
use Rattle.es_eval.specs.declared.outcomes.StopCause.TheVariants.{NotCallable, Unresolved}
use Rattle.es_eval.specs.declared.works.Now.{Now}
use Rattle.es_eval.specs.declared.works.Now.TheVariants as now
use Rattle.es_eval.specs.Actions.{Action}
use Rattle.es_eval.specs.Calls.{call_number, call_value}
use Rattle.es_shapes.specs.Codes.{declared_by, program_at}
use Rattle.es_shapes.specs.devices.Parts.{statements_from}
use Rattle.es_eval.specs.Endings.{EndsWith, MayEnd}
use Rattle.es_eval.specs.Evaluation.{all_functions, ends_normally, global_run, run_at, with_variables, world}
use Rattle.es_eval.specs.devices.Machines.{GoesOn, MachineState, behind_frame, opened, rest, run_from, told_global_run, told_run, variables_of, with_declared, world_of}
use Rattle.es_eval.specs.Rows.{Completion, statements}
use Rattle.es_shapes.specs.Sources.{program_of}
use Rattle.es_eval.specs.Unbounded.{called}
use Rattle.es_eval.specs.devices.Works.{as_completion, as_value, runs}
use Rattle.es_eval.specs.Worlds.{Run, World, global}
use Rattle.es_eval.specs.Worlds.Run.{Over}
use Rattle.es_eval.proofs.MachineLemmas.{rest-no_item}
use Rattle.es_eval.proofs.UnboundedLemmas.{global-unbounded, program-unbounded}

-- ---- what comes behind the lowest call

behind-lowest : (programs : List ToldProgram) (below : List Call) → length below ≡ 0
    → behind_frame programs below ≡ (λ handed w. Over AtEnd w)
unfolding behind_frame
behind-lowest programs [] none = refl
behind-lowest programs (caller ∷ below) none = absurd (omega arith)

no-more : (frames : List Call) → length frames ≡ 1 → length (below_last frames) ≡ 0
no-more [] one = refl
no-more (last ∷ below) one = omega arith

pub rest-lowest : (programs : List ToldProgram) (frames : List Call)
    → length frames ≡ 1 → next_item frames ≡ None
    → rest programs frames ≡ (λ handed w. Over AtEnd w)
rest-lowest programs frames one idle =
    rest-no_item programs frames idle (omega arith)
    ∙ behind-lowest programs (below_last frames) (no-more frames one)

-- ---- a program's statements

module _ (programs : List ToldProgram) (place : ℕ) (old declared named new : MachineState)
    (first : Now) where
  pub program-starts : length old.frames ≡ 1 → next_item old.frames ≡ None
      → declared.frames ≡ old.frames → named.frames ≡ declared.frames
      → world_of programs declared ≡ with_declared programs place (world_of programs old)
      → world_of programs named ≡ with_variables (variables_of programs place) (world_of programs declared)
      → GoesOn programs named (as_completion (statements (runs programs)
      (statements_from programs (Top place) 0))) new first
      → run_from programs new first ≡ told_run programs place (world_of programs old)
  unfolding told_run
  program-starts one idle same-declared same-named as_declared as_named on =
      let action : Action Completion =
      statements (runs programs) (statements_from programs (Top place) 0) in
      on
      ∙ ap (λ (frames : List Call). as_completion action (world_of programs named)
      (rest programs frames)) (same-named ∙ same-declared)
      ∙ ap (as_completion action (world_of programs named)) (rest-lowest programs old.frames one idle)
      ∙ ap (λ (w : World). action w ends_normally) as_named
      ∙ ap (λ (w : World). action (with_variables (variables_of programs place) w) ends_normally)
      as_declared

-- ---- a global

module _ (programs : List ToldProgram) (name : List ℕ) (m : MachineState) (first : Now) where
  pub global-called : (number : ℕ) (value : Value) (found : Option Value) (args : List Value)
      (new : MachineState) → length m.frames ≡ 1 → next_item m.frames ≡ None
      → found ≡ global (world_of programs m) name → found ≡ Some value → value ≡ Function number
      → args ≡ []
      → GoesOn programs m (as_value (call_number (declared_by programs)
      (called (declared_by programs)) number Undefined args)) new first
      → run_from programs new first ≡ told_global_run programs name (world_of programs m)
  unfolding told_global_run
  global-called number value found args new one idle is some function none on =
      let action : List Value → Action Value = λ args. call_number (declared_by programs)
      (called (declared_by programs)) number Undefined args in
      on
      ∙ ap (λ (args : List Value). as_value (action args) (world_of programs m) (rest programs m.frames)) none
      ∙ ap (as_value (action []) (world_of programs m)) (rest-lowest programs m.frames one idle)
      ∙ rw (← is, some, function) refl

  pub global-stopped : (value : Value) (found : Option Value)
      → found ≡ global (world_of programs m) name → found ≡ Some value
      → ((number : ℕ) → value ≡ Function number → ⊥) → first ≡ now.Over (Stopped NotCallable)
      → run_from programs m first ≡ told_global_run programs name (world_of programs m)
  unfolding told_global_run
  global-stopped value found is some other over = rw (over, ← is, some) (by value other)
    where
      by : (value : Value) → ((number : ℕ) → value ≡ Function number → ⊥)
          → Over (Stopped NotCallable) (world_of programs m)
          ≡ call_value (declared_by programs) (called (declared_by programs)) value []
          (world_of programs m) ends_normally
      by Undefined other = refl
      by Null other = refl
      by (Boolean truth) other = refl
      by (Number number) other = refl
      by (Str text) other = refl
      by (Object object) other = refl
      by (Function number) other = absurd (other number refl)
      by (Host reference) other = refl

  pub global-unresolved : (found : Option Value) → found ≡ global (world_of programs m) name
      → found ≡ None → first ≡ now.Over (Stopped Unresolved)
      → run_from programs m first ≡ told_global_run programs name (world_of programs m)
  unfolding told_global_run
  global-unresolved found is none over = rw (over, ← is, none) refl

-- ---- what is told of programs stands for their texts

pub declared-all : (programs : List ToldProgram)
    → all_functions (map program_at programs) ≡ declared_by programs
unfolding program_at declared_by
declared-all [] = refl
declared-all (told ∷ programs) = ap (λ rest. (program_at told).functions ++ rest) (declared-all programs)

pub told-run : (programs : List ToldProgram) (place : ℕ) (told : ToldProgram)
    (globals : List (List ℕ × Value)) (heap : List ObjectState) (budget : ℕ)
    → slice_get programs place ≡ Some told
    → statements_from programs (Top place) 0 ≡ (program_at told).body
    → run_at (map program_at programs) place globals heap budget
    ≡ told_run programs place (world globals heap budget)
unfolding run_at told_run with_declared program_at
told-run programs place told globals heap budget is top =
    rw (
      slice_get-map program_at programs place,
      is,
      program-unbounded (map program_at programs) (take place (map program_at programs)) (program_at told) globals heap budget,
      take-map program_at place programs,
      declared-all programs,
      declared-all (take place programs),
      top,
    ) refl

pub told-global : (programs : List ToldProgram) (name : List ℕ)
    (globals : List (List ℕ × Value)) (heap : List ObjectState) (budget : ℕ)
    → global_run (map program_at programs) name globals heap budget
    ≡ told_global_run programs name (world globals heap budget)
unfolding told_global_run
told-global programs name globals heap budget =
    global-unbounded (map program_at programs) name globals heap budget
    ∙ rw (declared-all programs) refl

-- ---- a script as a whole

there : (programs : List ToldProgram) (place : ℕ) → place < length programs
    → (told : ToldProgram) × (slice_get programs place ≡ Some told)
there [] place h = absurd (omega arith)
there (told ∷ programs) zero h = (told, refl)
there (told ∷ programs) (suc place) h = there programs place (omega arith)

module _ (sources : List (List Item)) (programs told : List ToldProgram)
    (globals : List (List ℕ × Value)) (heap : List ObjectState) (budget : ℕ) (m : MachineState)
    (texts : map program_at programs ≡ map program_of sources) (same : told ≡ programs)
    (start : m ≡ opened globals heap budget) where
  pub source-run : (place : ℕ) → place < length programs
      → ((found : ToldProgram) → slice_get programs place ≡ Some found
      → statements_from programs (Top place) 0 ≡ (program_at found).body)
      → run_at (map program_of sources) place globals heap budget
      ≡ told_run told place (world_of told m)
  source-run place h tops =
      let found = there programs place h in
      rw (← texts, same, start)
      (told-run programs place found.0 globals heap budget found.1 (tops found.0 found.1))

  pub source-global : (name : List ℕ)
      → global_run (map program_of sources) name globals heap budget
      ≡ told_global_run told name (world_of told m)
  source-global name =
      rw (← texts, same, start)
      (told-global programs name globals heap budget)

pub ends-with : {H : Type 0} (reads : H → HostRef → List ℕ → Value → H → Type 0)
    (writes : H → HostRef → List ℕ → Value → List ObjectState → H → Type 0)
    (calls : H → HostRef → List ℕ → List Value → List ObjectState → HostAnswer → H
    → List ObjectState → Type 0)
    (programs : List ToldProgram) (run told : Run) (h after : H) (outcome : Outcome) (m : MachineState)
    (globals : List (List ℕ × Value)) (heap : List ObjectState) → run ≡ told
    → globals ≡ m.globals → heap ≡ m.heap
    → MayEnd reads writes calls told h outcome (world_of programs m) after
    → EndsWith reads writes calls run h outcome globals heap after
ends-with reads writes calls programs run told h after outcome m globals heap is names objects ends = (
  world_of programs m,
  sym names,
  sym objects,
  subst (λ (r : Run). MayEnd reads writes calls r h outcome (world_of programs m) after) (sym is) ends,
)
