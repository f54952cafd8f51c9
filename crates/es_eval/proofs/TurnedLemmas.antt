-- How one part of a statement goes on as the next: declarators, and the turns of a loop.
use Rattle.std.proofs.Common.{◌≡◌, ◌∙◌, ◌+◌, ◌≤◌, ◌++◌, ◌∷◌, [], ℕ, List, Bool, true, false, ap, sym, refl, subst, arith}
use Rattle.std.specs.Prelude.{Option, Some, None, if◌then◌else◌}
use Rattle.std.specs.Option.{option_map}
use Rattle.std.proofs.Math.Path.{fun_ext}
use Rattle.std.proofs.lemmas.List.Elements.{All-nil}
use Rattle.es_expressions.specs.Trees.Trees.{OneMore}
use Rattle.es_reader.specs.Programs.{ToldProgram}
use Rattle.es_values.specs.declared.values.Value.{Value}
use Rattle.es_values.specs.Heaps.{IsLive}
use Rattle.es_values.specs.Values.{truth_of}
use Rattle.es_shapes.specs.Codes.{declared_by}
use Rattle.es_shapes.specs.Sources.{declarators_of}
use Rattle.es_shapes.specs.Syntax.{Expression, Statement}
use Rattle.es_shapes.specs.declared.codes.Code.{Code}
use Rattle.es_shapes.specs.declared.shapes.DeclaratorShape.{DeclaratorShape}
use Rattle.es_shapes.specs.devices.Parts.{declarator_at, expression_at, statement_at, tree_of, trees_from}
use Rattle.es_shapes.specs.declared.shapes.FirstShape.{FirstShape}
use Rattle.es_shapes.specs.declared.shapes.FirstShape.TheVariants as head
use Rattle.es_shapes.specs.devices.Shapes.{declared, first_shaped}
use Rattle.es_eval.specs.declared.held.Held.{Held}
use Rattle.es_eval.specs.declared.held.Ran.{Ran}
use Rattle.es_eval.specs.declared.held.Ran.TheVariants as ran_of
use Rattle.es_eval.specs.declared.held.Reached.{Reached}
use Rattle.es_eval.specs.declared.held.Reached.TheVariants as reached_of
use Rattle.es_eval.specs.declared.outcomes.Outcome.TheVariants.{Stopped}
use Rattle.es_eval.specs.declared.outcomes.StopCause.{StopCause}
use Rattle.es_eval.specs.declared.outcomes.StopCause.TheVariants.{Budget}
use Rattle.es_eval.specs.declared.works.Given.{Given}
use Rattle.es_eval.specs.declared.works.Given.TheVariants as given
use Rattle.es_eval.specs.declared.works.Loop.{Loop}
use Rattle.es_eval.specs.declared.works.StatementWork.{StatementWork}
use Rattle.es_eval.specs.declared.works.StatementWork.TheVariants as statement
use Rattle.es_eval.specs.declared.works.Work.TheVariants as work
use Rattle.es_eval.specs.Actions.{Action, Next, and_then, behind, gives, step}
use Rattle.es_eval.specs.Members.{write_name}
use Rattle.es_eval.specs.Rows.{Completion, declarator_row, declarators, turn_body, turn_row, update_row}
use Rattle.es_eval.specs.Rows.Completion.{Normal, Broke, Continued, Returned}
use Rattle.es_eval.specs.Worlds.{Run, World, with_name}
use Rattle.es_eval.specs.Worlds.Run.{Over}
use Rattle.es_eval.specs.devices.Held.{GoesAs, IsClear, Passes, Reaches, Runs}
use Rattle.es_eval.specs.devices.Machines.{AreLive, IsWorkLive, MachineState, Stays, burden, values_of_given, values_of_statement, world_of}
use Rattle.es_eval.specs.devices.Works.{as_completion, completed, declares, enters, evaluates, executes, loop_again, loop_body, loop_task, runs, starts_loop, statement_work_row, turns}
use Rattle.es_eval.proofs.ArmLemmas.{Steps}
use Rattle.es_eval.proofs.RanLemmas.{goes_then_runs, runs_more}
use Rattle.es_eval.proofs.HeldLemmas.{becomes_behind, held_more}
use Rattle.es_eval.proofs.StatementArms.{behind_turn}
use Rattle.es_eval.proofs.UnboundedLemmas.{done-row}

-- ---- one part, and then another

pub goes_same : (programs : List ToldProgram) (action more : Action Completion) (m : MachineState)
    → ((next : Next Completion) → action (world_of programs m) next ≡ more (world_of programs m) next)
    → GoesAs action more programs m m
goes_same programs action more m same = record {
  run = same;
  rest = λ told. refl;
  heap = omega arith;
  less = omega arith;
}

pub passes_some : (programs : List ToldProgram) (action more : Action Completion)
    (old new : MachineState) (ended : Option Ran) (ran : Ran) (held : Held)
    → Passes programs action more old new ended held → ended ≡ Some ran
    → Runs programs 12 action old new ran held
passes_some programs action more old new ended ran held passes is =
    subst (λ (e : Option Ran). Passes programs action more old new e held) is passes

pub passes_none : (programs : List ToldProgram) (action more : Action Completion)
    (old new : MachineState) (ended : Option Ran) (held : Held)
    → Passes programs action more old new ended held → ended ≡ None
    → GoesAs action more programs old new × IsClear held
passes_none programs action more old new ended held passes is =
    subst (λ (e : Option Ran). Passes programs action more old new e held) is passes

-- the same action by another row
pub same_runs : (programs : List ToldProgram) (weight : ℕ) (action more : Action Completion)
    (old new : MachineState) (ran : Ran) (held : Held)
    → ((next : Next Completion)
    → action (world_of programs old) next ≡ more (world_of programs old) next)
    → Runs programs weight more old new ran held → Runs programs weight action old new ran held
same_runs programs weight action more old new ran held same runs =
    goes_then_runs programs weight action more old old new ran held
    (goes_same programs action more old same) runs

-- ---- behind an expression

pub reached_goes : (programs : List ToldProgram) (first : Action Value)
    (more : Value → Action Completion) (action last : Action Completion) (old new : MachineState)
    (reached : Reached) (held : Held) (value : Value)
    → ((next : Next Completion)
    → action (world_of programs old) next ≡ behind first more (world_of programs old) next)
    → Reaches programs first old new reached held → reached ≡ reached_of.Value value
    → more value ≡ last → GoesAs action last programs old new × IsClear held
reached_goes programs first more action last old new reached held value same reaches is on =
    let there : Reaches programs first old new (reached_of.Value value) held =
    subst (λ (r : Reached). Reaches programs first old new r held) is reaches in (
      record {
        run = λ next. same next ∙ there.becomes.run (λ handed w. with handed w next)
            ∙ ap (λ (a : Action Completion). a (world_of programs new) next) on;
        rest = there.becomes.rest;
        heap = there.becomes.heap;
        less = let a = there.less in omega arith;
      },
      there.clear,
    )
  where
    with : Given → World → Next Completion → Run
    with (given.Value v) w next = more v w next
    with other w next = next Normal w

-- ---- steps

pub step_goes : (programs : List ToldProgram) (action : Action Completion)
    (old new : MachineState) (taken : Bool) → Steps old taken new → taken ≡ true
    → Stays old new → GoesAs (step action) action programs old new
step_goes programs action old new taken steps some stays =
    let stepped = subst (λ (b : Bool). Steps old b new) some steps in
    record {
      run = λ next. stepped programs (λ w other. action w next) (λ value w. Over (Stopped Budget) w);
      rest = stays.rest;
      heap = stays.heap;
      less = stays.less;
    }

pub step_stops : (programs : List ToldProgram) (weight : ℕ) (action : Action Completion)
    (old new : MachineState) (taken : Bool) (held : Held) → Steps old taken new → taken ≡ false
    → Stays old new → Runs programs weight (step action) old new (ran_of.Stopped Budget) held
step_stops programs weight action old new taken held steps none stays =
    let stepped = subst (λ (b : Bool). Steps old b new) none steps in
    record {
      becomes = record {
        run = λ next. stepped programs
            (λ w other. action w (λ completion after. next (completed completion) after))
            (λ value w. Over (Stopped Budget) w);
        rest = stays.rest;
        heap = stays.heap;
        live = All-nil (IsLive new.heap);
        kept = All-nil (IsWorkLive new.heap);
      };
      clear = tt;
      less = let a = stays.less in omega arith;
    }

-- ---- declarators

pub none_declared : (programs : List ToldProgram) (declared_code : Code) (shape : DeclaratorShape)
    (more : Action Completion) (w : World) (next : Next Completion)
    → declarator_at programs declared_code ≡ declared programs shape → shape.value ≡ None
    → and_then (declarator_row (enters programs) (declarator_at programs declared_code)) more w next
    ≡ more w next
unfolding declared
none_declared programs declared_code shape more w next what none =
    ap (λ named. and_then (declarator_row (enters programs) named) more w next) what
    ∙ by shape.value none
  where
    by : (value : Option Code) → value ≡ None
        → and_then (declarator_row (enters programs) (declared programs (record shape { value = value })))
        more w next ≡ more w next
    by value none = rw none refl

pub one_declared : (programs : List ToldProgram) (declared_code : Code) (shape : DeclaratorShape)
    (value : Code) (more : Action Completion) (w : World) (next : Next Completion)
    → declarator_at programs declared_code ≡ declared programs shape → shape.value ≡ Some value
    → and_then (declarator_row (enters programs) (declarator_at programs declared_code)) more w next
    ≡ behind (evaluates programs value) (λ v. and_then (write_name shape.name v) more) w next
unfolding declared
one_declared programs declared_code shape value more w next what some =
    ap (λ named. and_then (declarator_row (enters programs) named) more w next) what
    ∙ by shape.value some
  where
    by : (given_value : Option Code) → given_value ≡ Some value
        → and_then (declarator_row (enters programs)
        (declared programs (record shape { value = given_value }))) more w next
        ≡ behind (evaluates programs value) (λ v. and_then (write_name shape.name v) more) w next
    by given_value some = rw some refl

-- a name was written
pub written_goes : (programs : List ToldProgram) (name : List ℕ) (value : Value)
    (more : Action Completion) (old new : MachineState)
    → world_of programs new ≡ with_name name value (world_of programs old) → Stays old new
    → GoesAs (and_then (write_name name value) more) more programs old new
written_goes programs name value more old new same stays = record {
  run = λ next. ap (λ (w : World). more w next) (sym same);
  rest = stays.rest;
  heap = stays.heap;
  less = stays.less;
}

-- the first that is declared, and those behind it
pub declares_first : (programs : List ToldProgram) (code declared_code : Code) (place : ℕ)
    (w : World) (next : Next Completion)
    → trees_from programs code place
    ≡ OneMore (tree_of programs declared_code) (trees_from programs code (place + 1))
    → declares programs code place w next
    ≡ and_then (declarator_row (enters programs) (declarator_at programs declared_code))
    (declares programs code (place + 1)) w next
unfolding declarators_of
declares_first programs code declared_code place w next is =
    ap (λ trees. declarators (enters programs) (declarators_of trees) w next) is

-- ---- behind a part that waits, or that gave something

-- an item waits behind a part that waits
pub waits_behind : (programs : List ToldProgram) (weight : ℕ) (first action : Action Completion)
    (old new : MachineState) (ran last : Ran) (held after : Held) (item : StatementWork)
    → Runs programs weight first old new ran held → ran ≡ ran_of.Waits → last ≡ ran_of.Waits
    → after.next ≡ held.next
    → after.items.items ≡ held.items.items ++ work.Statement item ∷ []
    → ((w : World) (next : Next Given) → as_completion action w next
    ≡ as_completion first w
    (λ handed after. statement_work_row programs item handed after next))
    → values_of_statement item ≡ []
    → Runs programs (weight + 2) action old new last after
waits_behind programs weight first action old new ran last held after item runs is waits next items same none =
    let there : Runs programs weight first old new ran_of.Waits held =
    subst (λ (r : Ran). Runs programs weight first old new r held) is runs in
    let weighs = held_more held after (work.Statement item) next items in
    rw waits record {
      becomes = becomes_behind programs (as_completion first) (as_completion action) old new held
          after (work.Statement item) there.becomes
          (subst (λ (values : List Value). AreLive new.heap values) (sym none) (All-nil (IsLive new.heap)))
          next items same;
      clear = tt;
      less = let a = there.less in omega arith;
    }

-- more may be put on the stack
-- a step pays for more
pub step_runs : (programs : List ToldProgram) (weight less : ℕ) (action more : Action Completion)
    (old mid new : MachineState) (ran : Ran) (held : Held)
    → GoesAs action more programs old mid → burden mid + 40 ≤ burden old → weight ≤ less + 40
    → Runs programs weight more mid new ran held → Runs programs less action old new ran held
step_runs programs weight less action more old mid new ran held first paid up runs = record {
  becomes = (goes_then_runs programs weight action more old mid new ran held first runs).becomes;
  clear = runs.clear;
  less = let a = runs.less in omega arith;
}

-- ---- the first part of a `for`

pub first_expression : (programs : List ToldProgram) (first : FirstShape) (loop : Loop)
    (expression : Code) (w : World) (next : Next Completion)
    → first ≡ head.FirstExpression expression
    → starts_loop programs first loop w next
    ≡ behind (evaluates programs expression) (λ value. turns programs (loop_task programs loop)) w next
unfolding first_shaped
first_expression programs first loop expression w next is = rw is refl

pub first_var : (programs : List ToldProgram) (code : Code) (loop : Loop) (w : World)
    (next : Next Completion)
    → starts_loop programs (head.FirstVar code) loop w next
    ≡ step (and_then (declares programs code 0) (turns programs (loop_task programs loop))) w next
unfolding first_shaped
first_var programs code loop w next = refl

-- whatever the first part gives, the rest comes behind it
pub first_goes : (programs : List ToldProgram) (first more : Action Completion)
    (old mid new : MachineState) (ran : Ran) (handed : Given) (held : Held)
    → GoesAs (step (and_then first more)) (and_then first more) programs old mid
    → burden mid + 40 ≤ burden old → Runs programs 12 first mid new ran held
    → ran ≡ ran_of.Given handed
    → GoesAs (step (and_then first more)) more programs old new × IsClear held
first_goes programs first more old mid new ran handed held goes less runs is =
    let there : Runs programs 12 first mid new (ran_of.Given handed) held =
    subst (λ (r : Ran). Runs programs 12 first mid new r held) is runs in (
      record {
        run = λ next. goes.run next ∙ there.becomes.run (λ handed after. more after next);
        rest = λ told. there.becomes.rest told ∙ goes.rest told;
        heap = let a = there.becomes.heap in let b = goes.heap in omega arith;
        less = let a = there.less in omega arith;
      },
      there.clear,
    )

pub first_stops : (programs : List ToldProgram) (weight : ℕ) (first more : Action Completion)
    (old new : MachineState) (ran : Ran) (cause : StopCause) (held : Held)
    → Runs programs weight first old new ran held → ran ≡ ran_of.Stopped cause
    → Runs programs weight (and_then first more) old new (ran_of.Stopped cause) held
first_stops programs weight first more old new ran cause held runs is =
    let there : Runs programs weight first old new (ran_of.Stopped cause) held =
    subst (λ (r : Ran). Runs programs weight first old new r held) is runs in
    record {
      becomes = record {
        run = λ next. there.becomes.run
            (λ handed after. more after (λ completion w. next (completed completion) w));
        rest = there.becomes.rest;
        heap = there.becomes.heap;
        live = there.becomes.live;
        kept = there.becomes.kept;
      };
      clear = tt;
      less = there.less;
    }

-- ---- turns

-- a loop with a test
pub tested_turn : (programs : List ToldProgram) (loop : Loop) (test : Code) (w : World)
    (next : Next Completion) → loop.test ≡ Some test
    → turns programs (loop_task programs loop) w next
    ≡ behind (evaluates programs test)
    (λ value. if truth_of value then loop_body programs loop else gives Normal) w next
tested_turn programs loop test w next is =
    done-row (declared_by programs) (loop_task programs loop) w next ∙ by loop.test is
  where
    update : Option Expression
    update = option_map (expression_at programs) loop.update

    body : Statement
    body = statement_at programs loop.body

    by : (given_test : Option Code) → given_test ≡ Some test
        → turn_row (enters programs) (runs programs) (turns programs)
        (option_map (expression_at programs) given_test) update body w next
        ≡ behind (evaluates programs test) (λ value. if truth_of value
        then turn_body (enters programs) (runs programs) (turns programs)
        (option_map (expression_at programs) given_test) update body
        else gives Normal) w next
    by given_test is = rw is refl

-- a loop without one
pub untested_turn : (programs : List ToldProgram) (loop : Loop) (w : World)
    (next : Next Completion) → loop.test ≡ None
    → turns programs (loop_task programs loop) w next ≡ loop_body programs loop w next
untested_turn programs loop w next is =
    done-row (declared_by programs) (loop_task programs loop) w next ∙ by loop.test is
  where
    update : Option Expression
    update = option_map (expression_at programs) loop.update

    body : Statement
    body = statement_at programs loop.body

    by : (given_test : Option Code) → given_test ≡ None
        → turn_row (enters programs) (runs programs) (turns programs)
        (option_map (expression_at programs) given_test) update body w next
        ≡ turn_body (enters programs) (runs programs) (turns programs)
        (option_map (expression_at programs) given_test) update body w next
    by given_test is = rw is refl

-- the part behind the body
pub updated_again : (programs : List ToldProgram) (loop : Loop) (update : Code) (w : World)
    (next : Next Completion) → loop.update ≡ Some update
    → loop_again programs loop w next
    ≡ behind (evaluates programs update) (λ value. turns programs (loop_task programs loop)) w next
updated_again programs loop update w next is = by loop.update is
  where
    again : Action Completion
    again = turns programs (loop_task programs loop)

    by : (given_update : Option Code) → given_update ≡ Some update
        → and_then (update_row (enters programs) (option_map (expression_at programs) given_update))
        again w next
        ≡ behind (evaluates programs update) (λ value. again) w next
    by given_update is = rw is refl

pub not_updated_again : (programs : List ToldProgram) (loop : Loop) (w : World)
    (next : Next Completion) → loop.update ≡ None
    → loop_again programs loop w next ≡ turns programs (loop_task programs loop) w next
not_updated_again programs loop w next is = by loop.update is
  where
    again : Action Completion
    again = turns programs (loop_task programs loop)

    by : (given_update : Option Code) → given_update ≡ None
        → and_then (update_row (enters programs) (option_map (expression_at programs) given_update))
        again w next ≡ again w next
    by given_update is = rw is refl

-- ---- the body of a turn

-- what is completed is handed on
handed_on : Next Completion → Next Given
handed_on next given.Normal w = next Normal w
handed_on next given.Broke w = next Broke w
handed_on next given.Continued w = next Continued w
handed_on next (given.Returned value) w = next (Returned value) w
handed_on next (given.Value value) w = next Normal w

as_handed : (action : Action Completion) (w : World) (next : Next Completion)
    → action w next ≡ as_completion action w (handed_on next)
unfolding handed_on
as_handed action w next =
    ap (action w) (fun_ext (λ completion. fun_ext (λ after. by completion after)))
  where
    by : (completion : Completion) (after : World)
        → next completion after ≡ handed_on next (completed completion) after
    by Normal after = refl
    by Broke after = refl
    by Continued after = refl
    by (Returned value) after = refl

module _ (programs : List ToldProgram) (loop : Loop) (old new : MachineState) (ran : Ran)
    (held : Held) (runs : Runs programs 1 (executes programs loop.body) old new ran held) where
  -- what the body gave, an item would be given
  body_run : (handed : Given) (there : Runs programs 1 (executes programs loop.body) old new
      (ran_of.Given handed) held)
      → (next : Next Given) → as_completion (loop_body programs loop) (world_of programs old) next
      ≡ statement_work_row programs (statement.Body loop) handed (world_of programs new) next
  body_run handed there next =
      sym (behind_turn programs loop (world_of programs old) next)
      ∙ there.becomes.run
      (λ handed w. statement_work_row programs (statement.Body loop) handed w next)

  -- the part behind it comes next
  pub body_goes : (handed : Given) → ran ≡ ran_of.Given handed
      → statement_work_row programs (statement.Body loop) handed
      ≡ as_completion (loop_again programs loop)
      → GoesAs (loop_body programs loop) (loop_again programs loop) programs old new × IsClear held
  body_goes handed is row =
      let there : Runs programs 1 (executes programs loop.body) old new (ran_of.Given handed) held =
      subst (λ (r : Ran). Runs programs 1 (executes programs loop.body) old new r held) is runs in (
        record {
          run = λ next. as_handed (loop_body programs loop) (world_of programs old) next
              ∙ body_run handed there (handed_on next)
              ∙ ap (λ (a : Action Given). a (world_of programs new) (handed_on next)) row
              ∙ sym (as_handed (loop_again programs loop) (world_of programs new) next);
          rest = there.becomes.rest;
          heap = there.becomes.heap;
          less = let a = there.less in omega arith;
        },
        there.clear,
      )

  -- the loop is at its end
  pub body_ends : (handed last : Given) → ran ≡ ran_of.Given handed
      → statement_work_row programs (statement.Body loop) handed ≡ gives last
      → (AreLive new.heap (values_of_given handed) → AreLive new.heap (values_of_given last))
      → Runs programs 12 (loop_body programs loop) old new (ran_of.Given last) held
  body_ends handed last is row live =
      let there : Runs programs 1 (executes programs loop.body) old new (ran_of.Given handed) held =
      subst (λ (r : Ran). Runs programs 1 (executes programs loop.body) old new r held) is runs in
      record {
        becomes = record {
          run = λ next. body_run handed there next
              ∙ ap (λ (a : Action Given). a (world_of programs new) next) row;
          rest = there.becomes.rest;
          heap = there.becomes.heap;
          live = live there.becomes.live;
          kept = All-nil (IsWorkLive new.heap);
        };
        clear = there.clear;
        less = let a = there.less in omega arith;
      }

  pub body_stops : (cause : StopCause) → ran ≡ ran_of.Stopped cause
      → Runs programs 12 (loop_body programs loop) old new (ran_of.Stopped cause) held
  body_stops cause is =
      let there : Runs programs 1 (executes programs loop.body) old new (ran_of.Stopped cause) held =
      subst (λ (r : Ran). Runs programs 1 (executes programs loop.body) old new r held) is runs in
      record {
        becomes = record {
          run = λ next. sym (behind_turn programs loop (world_of programs old) next)
              ∙ there.becomes.run
              (λ handed w. statement_work_row programs (statement.Body loop) handed w next);
          rest = there.becomes.rest;
          heap = there.becomes.heap;
          live = there.becomes.live;
          kept = there.becomes.kept;
        };
        clear = tt;
        less = let a = there.less in omega arith;
      }

  -- the item waits
  pub body_waits : (after : Held) (last : Ran) → ran ≡ ran_of.Waits → last ≡ ran_of.Waits
      → after.next ≡ held.next
      → after.items.items ≡ held.items.items ++ work.Statement (statement.Body loop) ∷ []
      → Runs programs 12 (loop_body programs loop) old new last after
  body_waits after last is waits next items =
      runs_more programs 3 12 (loop_body programs loop) old new last after (omega arith)
      (waits_behind programs 1 (executes programs loop.body) (loop_body programs loop) old new ran
      last held after (statement.Body loop) runs is waits next items
      (λ w next. sym (behind_turn programs loop w next)) refl)
