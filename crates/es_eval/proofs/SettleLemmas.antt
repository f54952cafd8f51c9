-- How what waits is put on the control stack.
use Rattle.std.proofs.Common.{◌≡◌, ◌∙◌, ◌+◌, ◌*◌, ◌≤◌, ◌++◌, ◌∷◌, [], ℕ, List, ap, sym, subst, arith}
use Rattle.std.proofs.Math.Path.{fun_ext}
use Rattle.std.specs.List.{sum_by}
use Rattle.std.proofs.lemmas.List.Sums.{sum_by-append, sum_by-cons}
use Rattle.es_reader.specs.Programs.{ToldProgram}
use Rattle.es_eval.specs.declared.held.Held.{Held}
use Rattle.es_eval.specs.declared.held.Ran.{Ran}
use Rattle.es_eval.specs.declared.held.Reached.{Reached}
use Rattle.es_eval.specs.declared.held.Reached.TheVariants as reached_of
use Rattle.es_eval.specs.declared.outcomes.Outcome.TheVariants.{Stopped}
use Rattle.es_eval.specs.declared.outcomes.StopCause.{StopCause}
use Rattle.es_eval.specs.declared.works.Given.{Given}
use Rattle.es_eval.specs.declared.works.Given.TheVariants as given
use Rattle.es_eval.specs.declared.works.Now.{Now}
use Rattle.es_eval.specs.declared.works.Now.TheVariants as now
use Rattle.es_eval.specs.declared.works.Work.{Work}
use Rattle.es_eval.specs.Actions.{Action, Next, behind}
use Rattle.es_eval.specs.Rows.{Completion}
use Rattle.es_values.specs.declared.values.Value.{Value}
use Rattle.es_eval.specs.devices.Held.{Reaches, ReachesBehind, Runs, items_of_ran, items_of_reached, next_of_ran, next_of_reached, weight_of_ran}
use Rattle.es_eval.specs.devices.Machines.{GoesOn, MachineState, burden, items_rest, next_run, rest, run_from, turns_of, weight, world_of}
use Rattle.es_eval.specs.devices.Works.{as_completion, as_value, does}
use Rattle.es_eval.specs.Worlds.{Run, World}
use Rattle.es_eval.proofs.HeldLemmas.{items_behind}

-- ---- what waits

-- an item that is put while the others still wait
pub put_rest : (programs : List ToldProgram) (items left : List Work) (item : Work)
    (old new : MachineState) → items ≡ left ++ item ∷ []
    → rest programs new.frames ≡ (λ handed w. does programs item handed w (rest programs old.frames))
    → items_rest programs left (rest programs new.frames)
    ≡ items_rest programs items (rest programs old.frames)
put_rest programs items left item old new is puts =
    ap (items_rest programs left) puts
    ∙ sym (items_behind programs left item (rest programs old.frames))
    ∙ ap (λ (l : List Work). items_rest programs l (rest programs old.frames)) (sym is)

pub put_burden : (items left : List Work) (item : Work) (old new : MachineState)
    → items ≡ left ++ item ∷ [] → burden new ≡ burden old + 2 * turns_of item
    → burden new + 2 * sum_by turns_of left ≡ burden old + 2 * sum_by turns_of items
put_burden items left item old new is more =
    let sums = sum_by-append turns_of left (item ∷ []) in
    let one = sum_by-cons turns_of item [] in
    rw (is, sums) (omega arith)

-- ---- what came so far

-- the run that goes on where what waits is on the stack
pub settled : (programs : List ToldProgram) (more : ℕ) (action : Action Completion)
    (old mid new : MachineState) (ran : Ran) (held : Held) (next : Now)
    → Runs programs more action old mid ran held
    → run_from programs new next ≡ next_run programs (next_of_ran ran held) (world_of programs mid)
    (items_rest programs (items_of_ran ran held) (rest programs mid.frames))
    → GoesOn programs old (as_completion action) new next
settled programs more action old mid new ran held next runs settles =
    settles
    ∙ ap (λ (behind : Next Given). next_run programs (next_of_ran ran held) (world_of programs mid)
    (items_rest programs (items_of_ran ran held) behind)) (runs.becomes.rest programs)
    ∙ sym (runs.becomes.run (rest programs old.frames))

pub settled_less : (programs : List ToldProgram) (more : ℕ) (action : Action Completion)
    (old mid new : MachineState) (ran : Ran) (held : Held) (next : Now)
    → Runs programs more action old mid ran held
    → weight new next ≡ burden mid + weight_of_ran ran held
    → weight new next ≤ burden old + more
settled_less programs more action old mid new ran held next runs weighs =
    let a = runs.less in omega (arith, a, weighs)

-- ---- what an expression came to

pub reached_goes : (programs : List ToldProgram) (action : Action Value)
    (old mid new : MachineState) (reached : Reached) (held : Held) (next : Now)
    → ReachesBehind programs action old mid reached held
    → run_from programs new next ≡ next_run programs (next_of_reached reached held)
    (world_of programs mid)
    (items_rest programs (items_of_reached reached held) (rest programs mid.frames))
    → GoesOn programs old (as_value action) new next
reached_goes programs action old mid new reached held next reaches settles =
    settles
    ∙ ap (λ (behind : Next Given). next_run programs (next_of_reached reached held)
    (world_of programs mid) (items_rest programs (items_of_reached reached held) behind))
    (reaches.becomes.rest programs)
    ∙ sym (reaches.becomes.run (rest programs old.frames))

-- ---- what comes behind an expression

module _ (programs : List ToldProgram) (first : Action Value) (more : Value → Action Value)
    (old mid new : MachineState) (reached : Reached) (held : Held) (next : Now)
    (reaches : Reaches programs first old mid reached held) where
  abbrev k : Next Given
  k = rest programs old.frames

  abbrev with : Given → World → Run
  with (given.Value value) w = as_value (more value) w k
  with other w = k other w

  -- its value is there
  pub value_goes : (value : Value) → reached ≡ reached_of.Value value
      → GoesOn programs mid (as_value (more value)) new next
      → GoesOn programs old (as_value (behind first more)) new next
  value_goes value is on =
      let there : Reaches programs first old mid (reached_of.Value value) held =
      subst (λ (r : Reached). Reaches programs first old mid r held) is reaches in
      on
      ∙ ap (as_value (more value) (world_of programs mid)) (there.becomes.rest programs)
      ∙ sym (there.becomes.run with)

  -- the script is stopped
  pub stop_goes : (cause : StopCause) → reached ≡ reached_of.Stopped cause
      → next ≡ now.Over (Stopped cause)
      → GoesOn programs old (as_value (behind first more)) mid next
  stop_goes cause is over =
      let there : Reaches programs first old mid (reached_of.Stopped cause) held =
      subst (λ (r : Reached). Reaches programs first old mid r held) is reaches in
      ap (run_from programs mid) over ∙ sym (there.becomes.run with)

  -- an item waits for it
  pub wait_goes : (after : Held) (item : Work) → reached ≡ reached_of.Waits
      → after.items.items ≡ held.items.items ++ item ∷ []
      → ((value : Value) → does programs item (given.Value value) ≡ as_value (more value))
      → next ≡ held.next
      → rest programs new.frames ≡ items_rest programs after.items.items (rest programs mid.frames)
      → world_of programs new ≡ world_of programs mid
      → GoesOn programs old (as_value (behind first more)) new next
  wait_goes after item is items does_more comes waits same =
      let there : Reaches programs first old mid reached_of.Waits held =
      subst (λ (r : Reached). Reaches programs first old mid r held) is reaches in
      ap (λ (n : Now). next_run programs n (world_of programs new) (rest programs new.frames)) comes
      ∙ ap (λ (w : World). next_run programs held.next w (rest programs new.frames)) same
      ∙ ap (next_run programs held.next (world_of programs mid))
      (waits
      ∙ ap (λ (l : List Work). items_rest programs l (rest programs mid.frames)) items
      ∙ items_behind programs held.items.items item (rest programs mid.frames)
      ∙ ap (λ (b : Next Given). items_rest programs held.items.items
      (λ handed w. does programs item handed w b)) (there.becomes.rest programs))
      ∙ sym (there.becomes.run (λ handed w. does programs item handed w k))
      ∙ ap (first (world_of programs old)) (fun_ext (λ value. fun_ext (λ after.
      ap (λ (action : Action Given). action after k) (does_more value))))
