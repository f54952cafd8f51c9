-- What statements are run so far: behind a step, in a row, and behind a test.
use Rattle.std.proofs.Common.{◌≡◌, ◌∙◌, ◌+◌, ◌≤◌, ◌++◌, ◌∷◌, [], ℕ, List, Bool, true, false, ap, sym, refl, subst, arith}
use Rattle.std.specs.Prelude.{Result, Ok, Err, IfOk, OnOk, if◌then◌else◌}
use Rattle.std.proofs.Math.Path.{fun_ext}
use Rattle.std.proofs.lemmas.List.Elements.{All-nil}
use Rattle.es_expressions.specs.Trees.Trees.{NoTrees, OneMore}
use Rattle.es_reader.specs.Programs.{ToldProgram}
use Rattle.es_values.specs.declared.values.Value.{Value}
use Rattle.es_values.specs.Heaps.{IsLive}
use Rattle.es_values.specs.Values.{truth_of}
use Rattle.es_shapes.specs.Codes.{declared_by}
use Rattle.es_shapes.specs.Syntax.{Statement}
use Rattle.es_shapes.specs.declared.codes.Code.{Code}
use Rattle.es_shapes.specs.declared.codes.Listing.{Listing}
use Rattle.es_shapes.specs.declared.shapes.StatementShape.{StatementShape}
use Rattle.es_shapes.specs.devices.Parts.{listed, statement_at, statements_from, tree_of}
use Rattle.es_shapes.specs.devices.Shapes.{stated}
use Rattle.es_eval.specs.declared.held.Held.{Held}
use Rattle.es_eval.specs.declared.held.Ran.{Ran}
use Rattle.es_eval.specs.declared.held.Ran.TheVariants as ran_of
use Rattle.es_eval.specs.declared.held.Reached.{Reached}
use Rattle.es_eval.specs.declared.held.Reached.TheVariants as reached_of
use Rattle.es_eval.specs.declared.outcomes.Outcome.TheVariants.{Stopped}
use Rattle.es_eval.specs.declared.outcomes.StopCause.{StopCause}
use Rattle.es_eval.specs.declared.outcomes.StopCause.TheVariants.{Budget}
use Rattle.es_eval.specs.declared.works.Given.{Given}
use Rattle.es_eval.specs.declared.works.Given.TheVariants as given
use Rattle.es_eval.specs.declared.works.Now.{Now}
use Rattle.es_eval.specs.declared.works.Now.TheVariants as now
use Rattle.es_eval.specs.declared.works.StatementWork.TheVariants as statement
use Rattle.es_eval.specs.declared.works.Work.{Work}
use Rattle.es_eval.specs.declared.works.Work.TheVariants as work
use Rattle.es_eval.specs.Actions.{Action, Next}
use Rattle.es_eval.specs.Rows.{Completion, statement_row, statements}
use Rattle.es_eval.specs.Rows.Completion.{Normal, Broke, Continued, Returned}
use Rattle.es_eval.specs.Rows.Task.{Do}
use Rattle.es_eval.specs.Unbounded.{done}
use Rattle.es_eval.specs.Worlds.{World}
use Rattle.es_eval.specs.Worlds.Run.{Over}
use Rattle.es_eval.specs.devices.Held.{Becomes, GoesAs, IsClear, Reaches, Runs}
use Rattle.es_eval.specs.devices.Machines.{AreLive, IsWorkLive, MachineState, Stays, burden, items_rest, next_run, world_of}
use Rattle.es_eval.specs.devices.Works.{as_completion, completed, enters, executes, runs, statement_work_row, turns}
use Rattle.es_eval.proofs.ArmLemmas.{Steps}
use Rattle.es_eval.proofs.HeldLemmas.{becomes_behind, held_more}
use Rattle.es_eval.proofs.StatementArms.{behind_all, behind_statement}
use Rattle.es_eval.proofs.UnboundedLemmas.{done-row}

-- what two clauses tell of a result
pub both_ok : {T E : Type 0} (result : Result T E) (P : T → Type 0) (A : Type 0) (Q : T → Type 0)
    → ((found : T) → P found → A → Q found) → IfOk result P → OnOk result A → IfOk result Q
both_ok (Ok found) P A Q tells p a = tells found p a
both_ok (Err none) P A Q tells p a = tt

-- the value that is reached is live
pub reached_live : (programs : List ToldProgram) (action : Action Value) (old new : MachineState)
    (reached : Reached) (held : Held) (value : Value)
    → Reaches programs action old new reached held → reached ≡ reached_of.Value value
    → AreLive new.heap (value ∷ [])
reached_live programs action old new reached held value reaches is =
    (subst (λ (r : Reached). Reaches programs action old new r held) is reaches).becomes.live

-- ---- what is allowed more

pub runs_more : (programs : List ToldProgram) (few many : ℕ) (action : Action Completion)
    (old new : MachineState) (ran : Ran) (held : Held) → few ≤ many
    → Runs programs few action old new ran held → Runs programs many action old new ran held
runs_more programs few many action old new ran held allowed runs = record {
  becomes = runs.becomes;
  clear = runs.clear;
  less = let a = runs.less in omega arith;
}

-- ---- what is chosen

-- a statement runs that a value chooses
pub runs_chosen : (programs : List ToldProgram) (value : Value) (first second : Action Completion)
    (old new : MachineState) (ran : Ran) (held : Held) → truth_of value ≡ true
    → Runs programs 1 first old new ran held
    → Runs programs 12 (if truth_of value then first else second) old new ran held
runs_chosen programs value first second old new ran held is runs =
    subst (λ (b : Bool). Runs programs 12 (if b then first else second) old new ran held) (sym is)
    (runs_more programs 1 12 first old new ran held (omega arith) runs)

pub runs_other : (programs : List ToldProgram) (value : Value) (first second : Action Completion)
    (old new : MachineState) (ran : Ran) (held : Held) → truth_of value ≡ false
    → Runs programs 1 second old new ran held
    → Runs programs 12 (if truth_of value then first else second) old new ran held
runs_other programs value first second old new ran held is runs =
    subst (λ (b : Bool). Runs programs 12 (if b then first else second) old new ran held) (sym is)
    (runs_more programs 1 12 second old new ran held (omega arith) runs)

-- ---- what goes on

pub goes_then_goes : (programs : List ToldProgram) (action more last : Action Completion)
    (old mid new : MachineState) → GoesAs action more programs old mid
    → GoesAs more last programs mid new → GoesAs action last programs old new
goes_then_goes programs action more last old mid new first second = record {
  run = λ next. first.run next ∙ second.run next;
  rest = λ told. second.rest told ∙ first.rest told;
  heap = let a = first.heap in let b = second.heap in omega arith;
  less = let a = first.less in let b = second.less in omega arith;
}

pub goes_then_runs : (programs : List ToldProgram) (allowed : ℕ) (action more : Action Completion)
    (old mid new : MachineState) (ran : Ran) (held : Held) → GoesAs action more programs old mid
    → Runs programs allowed more mid new ran held → Runs programs allowed action old new ran held
goes_then_runs programs allowed action more old mid new ran held goes runs = record {
  becomes = record {
    run = λ next. goes.run (λ completion after. next (completed completion) after)
        ∙ runs.becomes.run next;
    rest = λ told. runs.becomes.rest told ∙ goes.rest told;
    heap = let a = goes.heap in let b = runs.becomes.heap in omega arith;
    live = runs.becomes.live;
    kept = runs.becomes.kept;
  };
  clear = runs.clear;
  less = let a = goes.less in let b = runs.less in omega arith;
}

-- what is handed a completion is handed what stands for it
abbrev pub given_on : Next Completion → Next Given
given_on next given.Normal w = next Normal w
given_on next given.Broke w = next Broke w
given_on next given.Continued w = next Continued w
given_on next (given.Returned value) w = next (Returned value) w
given_on next (given.Value value) w = next Normal w

pub completed_on : (action : Action Completion) (w : World) (next : Next Completion)
    → action w next ≡ as_completion action w (given_on next)
completed_on action w next =
    ap (action w) (fun_ext (λ completion. fun_ext (λ after. by completion after)))
  where
    by : (completion : Completion) (after : World)
        → next completion after ≡ given_on next (completed completion) after
    by Normal after = refl
    by Broke after = refl
    by Continued after = refl
    by (Returned value) after = refl

-- ---- steps

-- a statement behind its step
pub ran_stepped : (programs : List ToldProgram) (old mid new : MachineState) (code : Code)
    (shape : StatementShape) (taken : Bool) (ran : Ran) (held : Held) → Steps old taken mid
    → taken ≡ true → (taken ≡ true → burden mid + 40 ≤ burden old) → Stays old mid
    → statement_at programs code ≡ stated programs code shape
    → Runs programs 12 (statement_row (enters programs) (runs programs) (turns programs)
    (stated programs code shape)) mid new ran held
    → Runs programs 0 (executes programs code) old new ran held
ran_stepped programs old mid new code shape taken ran held steps some pays stays is row = record {
  becomes = record {
    run = λ next. steps_on next
        ∙ done-row (declared_by programs) (Do (statement_at programs code)) (world_of programs mid)
        (λ completion after. next (completed completion) after)
        ∙ ap (λ (s : Statement). as_completion (statement_row (enters programs) (runs programs)
        (turns programs) s) (world_of programs mid) next) is
        ∙ row.becomes.run next;
    rest = λ told. row.becomes.rest told ∙ stays.rest told;
    heap = let a = stays.heap in let b = row.becomes.heap in omega arith;
    live = row.becomes.live;
    kept = row.becomes.kept;
  };
  clear = row.clear;
  less = let a = pays some in let b = row.less in omega arith;
}
  where
    steps_on : (next : Next Given)
        → as_completion (executes programs code) (world_of programs old) next
        ≡ as_completion (done (declared_by programs) (Do (statement_at programs code)))
        (world_of programs mid) next
    steps_on next = (subst (λ (b : Bool). Steps old b mid) some steps) programs
        (λ w other. as_completion (done (declared_by programs) (Do (statement_at programs code))) w
        next) (λ value w. Over (Stopped Budget) w)

-- no step is left for it
pub ran_unstepped : (programs : List ToldProgram) (old new : MachineState) (code : Code)
    (taken : Bool) (held : Held) → Steps old taken new → taken ≡ false → Stays old new
    → Runs programs 0 (executes programs code) old new (ran_of.Stopped Budget) held
ran_unstepped programs old new code taken held steps none stays = record {
  becomes = record {
    run = λ next. (subst (λ (b : Bool). Steps old b new) none steps) programs
        (λ w other. as_completion (done (declared_by programs) (Do (statement_at programs code))) w
        next) (λ value w. Over (Stopped Budget) w);
    rest = stays.rest;
    heap = stays.heap;
    live = All-nil (IsLive new.heap);
    kept = All-nil (IsWorkLive new.heap);
  };
  clear = tt;
  less = let a = stays.less in omega arith;
}

-- ---- rows

abbrev pub row_from : List ToldProgram → Listing → ℕ → Action Completion
row_from programs listing place =
    statements (runs programs) (statements_from programs listing place)

-- what a statement of a row is completed with is handed to those behind it
row_first : (programs : List ToldProgram) (listing : Listing) (place : ℕ) (code : Code)
    (old new : MachineState) (next : Now) (items : List Work)
    → listed programs listing place
    ≡ OneMore (tree_of programs code) (listed programs listing (place + 1))
    → Becomes programs (as_completion (executes programs code)) old new next items
    → (behind : Next Given)
    → as_completion (row_from programs listing place) (world_of programs old) behind
    ≡ next_run programs next (world_of programs new) (items_rest programs items (λ handed w.
    statement_work_row programs (statement.Statements listing (place + 1)) handed w behind))
row_first programs listing place code old new next items is came behind =
    sym (behind_statement programs listing place code (world_of programs old) behind is)
    ∙ came.run (λ handed w.
    statement_work_row programs (statement.Statements listing (place + 1)) handed w behind)

module _ (programs : List ToldProgram) (listing : Listing) (place : ℕ) (code : Code)
    (old new : MachineState) (ran : Ran) (held : Held)
    (is : listed programs listing place
    ≡ OneMore (tree_of programs code) (listed programs listing (place + 1)))
    (inner : Runs programs 1 (executes programs code) old new ran held) where
  -- the statement is completed normally, and those behind it come
  pub row_on : ran ≡ ran_of.Given given.Normal
      → GoesAs (row_from programs listing place) (row_from programs listing (place + 1)) programs
      old new
  row_on normal =
      let there : Runs programs 1 (executes programs code) old new (ran_of.Given given.Normal) held =
      subst (λ (r : Ran). Runs programs 1 (executes programs code) old new r held) normal inner in
      record {
        run = λ next. completed_on (row_from programs listing place) (world_of programs old) next
            ∙ row_first programs listing place code old new (now.Gives given.Normal) [] is
            there.becomes (given_on next)
            ∙ sym (completed_on (row_from programs listing (place + 1)) (world_of programs new)
            next);
        rest = there.becomes.rest;
        heap = there.becomes.heap;
        less = let a = there.less in omega arith;
      }

  -- no item waits then
  pub row_clear : ran ≡ ran_of.Given given.Normal → IsClear held
  row_clear normal =
      (subst (λ (r : Ran). Runs programs 1 (executes programs code) old new r held) normal inner).clear

  -- what is completed otherwise ends the row
  pub row_ended : (handed : Given) → ran ≡ ran_of.Given handed → (handed ≡ given.Normal → ⊥)
      → Runs programs 12 (row_from programs listing place) old new (ran_of.Given handed) held
  row_ended handed ended other =
      let there : Runs programs 1 (executes programs code) old new (ran_of.Given handed) held =
      subst (λ (r : Ran). Runs programs 1 (executes programs code) old new r held) ended inner in
      record {
        becomes = record {
          run = λ behind. row_first programs listing place code old new (now.Gives handed) [] is
              there.becomes behind
              ∙ handed_on handed (world_of programs new) behind other;
          rest = there.becomes.rest;
          heap = there.becomes.heap;
          live = there.becomes.live;
          kept = there.becomes.kept;
        };
        clear = there.clear;
        less = let a = there.less in omega arith;
      }
    where
      handed_on : (handed : Given) (w : World) (behind : Next Given)
          → (handed ≡ given.Normal → ⊥)
          → statement_work_row programs (statement.Statements listing (place + 1)) handed w behind
          ≡ behind handed w
      handed_on given.Normal w behind other = absurd (other refl)
      handed_on given.Broke w behind other = refl
      handed_on given.Continued w behind other = refl
      handed_on (given.Returned value) w behind other = refl
      handed_on (given.Value value) w behind other = refl

  -- the script is stopped there
  pub row_stopped : (cause : StopCause) → ran ≡ ran_of.Stopped cause
      → Runs programs 12 (row_from programs listing place) old new (ran_of.Stopped cause) held
  row_stopped cause stopped =
      let there : Runs programs 1 (executes programs code) old new (ran_of.Stopped cause) held =
      subst (λ (r : Ran). Runs programs 1 (executes programs code) old new r held) stopped inner in
      record {
        becomes = record {
          run = λ behind. row_first programs listing place code old new
              (now.Over (Stopped cause)) [] is there.becomes behind;
          rest = there.becomes.rest;
          heap = there.becomes.heap;
          live = there.becomes.live;
          kept = there.becomes.kept;
        };
        clear = tt;
        less = let a = there.less in omega arith;
      }

  -- those behind a statement that waits wait for it
  pub row_waits : (after : Held) (told : Ran) → ran ≡ ran_of.Waits → told ≡ ran_of.Waits
      → after.next ≡ held.next
      → after.items.items
      ≡ held.items.items ++ work.Statement (statement.Statements listing (place + 1)) ∷ []
      → Runs programs 12 (row_from programs listing place) old new told after
  row_waits after told waits is_told next items =
      let there : Runs programs 1 (executes programs code) old new ran_of.Waits held =
      subst (λ (r : Ran). Runs programs 1 (executes programs code) old new r held) waits inner in
      let item = work.Statement (statement.Statements listing (place + 1)) in
      let weighs = held_more held after item next items in
      rw is_told record {
        becomes = becomes_behind programs (as_completion (executes programs code))
            (as_completion (row_from programs listing place)) old new held after item
            there.becomes (All-nil (IsLive new.heap)) next items
            (λ w k. sym (behind_statement programs listing place code w k is));
        clear = tt;
        less = let a = there.less in omega arith;
      }

-- no statement is left
pub row_end : (programs : List ToldProgram) (listing : Listing) (place : ℕ) (m : MachineState)
    (held : Held) → listed programs listing place ≡ NoTrees → IsClear held
    → Runs programs 12 (row_from programs listing place) m m (ran_of.Given given.Normal) held
row_end programs listing place m held is clear = record {
  becomes = record {
    run = λ behind. sym (behind_all programs listing place (world_of programs m) behind is);
    rest = λ told. refl;
    heap = omega arith;
    live = All-nil (IsLive m.heap);
    kept = All-nil (IsWorkLive m.heap);
  };
  clear = clear;
  less = omega arith;
}
