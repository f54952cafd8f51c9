use Rattle.std.proofs.Common.{◌≡◌, ◌∙◌, ◌+◌, ap, refl, subst, sym, arith}
use Rattle.std.specs.Prelude.{if◌then◌else◌}
use Rattle.std.proofs.lemmas.Bool.{false≢true}
use Rattle.std.proofs.lemmas.List.Elements.{All-nil}
use Rattle.std.proofs.lemmas.Result.{IfOk-weaker}
use Rattle.es_values.specs.Heaps.{IsLive}
use Rattle.es_values.specs.Values.{truth_of}
use Rattle.es_shapes.specs.declared.codes.Code.{Code}
use Rattle.es_eval.specs.declared.held.Ran.{Ran}
use Rattle.es_eval.specs.declared.held.Ran.TheVariants as ran_of
use Rattle.es_eval.specs.declared.works.Given.{Given}
use Rattle.es_eval.specs.declared.works.Given.TheVariants as given
use Rattle.es_eval.specs.declared.works.StatementWork.TheVariants.{If, IfElse, NextTurn}
use Rattle.es_eval.specs.Actions.{gives, Action, and_then, behind, step}
use Rattle.es_eval.specs.Rows.Completion.{Normal}
use Rattle.es_eval.specs.devices.Held.{Runs}
use Rattle.es_eval.specs.devices.Works.{evaluates, executes, declares, loop_task, starts_loop, turns}
use Rattle.es_eval.proofs.HeldLemmas.{reached_given, reached_run, reached_stop, reached_wait}
use Rattle.es_eval.proofs.RanLemmas.{both_ok, goes_then_goes, goes_then_runs, ran_stepped, ran_unstepped, row_clear, row_end, row_ended, row_from, row_on, row_stopped, row_waits, runs_chosen, runs_other}
use Rattle.es_eval.proofs.ReachLemmas.{when_false}
use Rattle.es_eval.proofs.machine.Machine.+statement.Goals.{run_if_else-else-truth, run_if_else-then-truth}
use Rattle.es_eval.proofs.machine.Machine.+statement.Goals as goal
use Rattle.es_values.specs.declared.values.Value.{Value}
use Rattle.es_shapes.specs.declared.shapes.FirstShape.TheVariants.{FirstVar}
use Rattle.es_eval.specs.Rows.{Completion}
use Rattle.es_eval.specs.declared.outcomes.StopCause.TheVariants.{Budget}
use Rattle.es_eval.specs.devices.Machines.{world_of}
use Rattle.es_eval.proofs.StatementArms.{declared-turns}
use Rattle.es_eval.proofs.TurnedLemmas.{body_ends, body_goes, body_stops, body_waits, first_expression, first_goes, first_stops, first_var, goes_same, reached_goes, same_runs, step_goes, step_runs, step_stops, waits_behind}

-- ---- run_statement

pub run_statement-returns-then-not-take_step : goal.run_statement-returns-then-not-take_step
run_statement-returns-then-not-take_step t c =
    ran_unstepped c.args.programs.now c.args.self.now c.take_step.new.self c.args.code
    c.take_step.result c.args.held.now c.take_step.ensures.step c.if-not-take_step.true
    c.take_step.ensures.stays

pub run_statement-returns : goal.run_statement-returns
run_statement-returns t c =
    IfOk-weaker c.run_shape.result _ _
    (λ ran runs. ran_stepped c.args.programs.now c.args.self.now c.take_step.new.self
    c.run_shape.new.self c.args.code c.in_ok-shape.shape c.take_step.result ran
    c.run_shape.new.held c.take_step.ensures.step c.if-not-take_step.false
    c.take_step.ensures.less c.take_step.ensures.stays c.in_ok-shape.ensures runs)
    c.run_shape.ensures

-- ---- run_if

pub run_if-returns-then-not-truth : goal.run_if-returns-then-not-truth
run_if-returns-then-not-truth t c =
    let programs = c.args.programs.now in
    reached_given programs (evaluates programs c.args.test)
    (λ value. if truth_of value then executes programs c.args.body else gives Normal)
    c.args.self.now c.reach.new.self c.in_ok-given.field-0 c.reach.new.held c.in-Value.given Normal
    c.in_ok-given.ensures c.in-Value.is
    (sym (when_false (truth_of c.in-Value.given) (executes programs c.args.body) (gives Normal)
    (sym c.if-not-truth.ensures)))
    (All-nil (IsLive c.reach.new.self.heap))

pub run_if-returns-else-not-truth : goal.run_if-returns-else-not-truth
run_if-returns-else-not-truth t c =
    let programs = c.args.programs.now in
    IfOk-weaker c.run_inner.result _ _
    (λ ran runs. reached_run programs (evaluates programs c.args.test)
    (λ value. if truth_of value then executes programs c.args.body else gives Normal)
    c.args.self.now c.reach.new.self c.run_inner.new.self c.in_ok-given.field-0 c.reach.new.held
    c.run_inner.new.held c.in-Value.given ran c.in_ok-given.ensures c.in-Value.is
    (runs_chosen programs c.in-Value.given (executes programs c.args.body) (gives Normal)
    c.reach.new.self c.run_inner.new.self ran c.run_inner.new.held
    (sym c.if-not-truth.ensures) runs)) c.run_inner.ensures

pub run_if-returns-in-Stopped : goal.run_if-returns-in-Stopped
run_if-returns-in-Stopped t c =
    let programs = c.args.programs.now in
    reached_stop programs (evaluates programs c.args.test)
    (λ value. if truth_of value then executes programs c.args.body else gives Normal)
    c.args.self.now c.reach.new.self c.in_ok-given.field-0 c.reach.new.held c.in-Stopped.cause
    c.in_ok-given.ensures c.in-Stopped.is

pub run_if-returns-in-Waits : goal.run_if-returns-in-Waits
run_if-returns-in-Waits t c =
    let programs = c.args.programs.now in
    both_ok c.holds.result _ _ _
    (λ ran waits items. reached_wait programs (evaluates programs c.args.test)
    (λ value. if truth_of value then executes programs c.args.body else gives Normal)
    c.args.self.now c.reach.new.self c.in_ok-given.field-0 c.reach.new.held c.holds.new.self
    (If c.args.body) ran c.in_ok-given.ensures c.in-Waits.is waits c.holds.ensures.next items
    (λ value. refl) refl) c.holds.ensures.waits c.holds.ensures.items

-- ---- run_if_else

pub run_if_else-returns-after-truth : goal.run_if_else-returns-after-truth
run_if_else-returns-after-truth t c =
    let programs = c.args.programs.now in
    let chosen : (ran : Ran)
    → Runs programs 1 (executes programs c.if-truth.chosen) c.reach.new.self
    c.run_inner.new.self ran c.run_inner.new.held
    → Runs programs 12 (if truth_of c.in-Value.given then executes programs c.args.body
    else executes programs c.args.other) c.reach.new.self c.run_inner.new.self ran
    c.run_inner.new.held = λ ran runs. elim c.if-truth.branch [
      | run_if_else-then-truth w ↦ runs_chosen programs c.in-Value.given
          (executes programs c.args.body) (executes programs c.args.other) c.reach.new.self
          c.run_inner.new.self ran c.run_inner.new.held (sym c.truth.ensures ∙ w.if-truth.true)
          (subst (λ (code : Code). Runs programs 1 (executes programs code) c.reach.new.self
          c.run_inner.new.self ran c.run_inner.new.held) w.chosen-is runs)
      | run_if_else-else-truth w ↦ runs_other programs c.in-Value.given
          (executes programs c.args.body) (executes programs c.args.other) c.reach.new.self
          c.run_inner.new.self ran c.run_inner.new.held (sym c.truth.ensures ∙ w.if-truth.false)
          (subst (λ (code : Code). Runs programs 1 (executes programs code) c.reach.new.self
          c.run_inner.new.self ran c.run_inner.new.held) w.chosen-is runs)
    ] in
    IfOk-weaker c.run_inner.result _ _
    (λ ran runs. reached_run programs (evaluates programs c.args.test)
    (λ value. if truth_of value then executes programs c.args.body
    else executes programs c.args.other)
    c.args.self.now c.reach.new.self c.run_inner.new.self c.in_ok-given.field-0 c.reach.new.held
    c.run_inner.new.held c.in-Value.given ran c.in_ok-given.ensures c.in-Value.is (chosen ran runs)) c.run_inner.ensures

pub run_if_else-returns-in-Stopped : goal.run_if_else-returns-in-Stopped
run_if_else-returns-in-Stopped t c =
    let programs = c.args.programs.now in
    reached_stop programs (evaluates programs c.args.test)
    (λ value. if truth_of value then executes programs c.args.body
    else executes programs c.args.other) c.args.self.now c.reach.new.self c.in_ok-given.field-0
    c.reach.new.held c.in-Stopped.cause c.in_ok-given.ensures c.in-Stopped.is

pub run_if_else-returns-in-Waits : goal.run_if_else-returns-in-Waits
run_if_else-returns-in-Waits t c =
    let programs = c.args.programs.now in
    both_ok c.holds.result _ _ _
    (λ ran waits items. reached_wait programs (evaluates programs c.args.test)
    (λ value. if truth_of value then executes programs c.args.body
    else executes programs c.args.other) c.args.self.now c.reach.new.self c.in_ok-given.field-0
    c.reach.new.held c.holds.new.self (IfElse c.args.body c.args.other) ran c.in_ok-given.ensures
    c.in-Waits.is waits c.holds.ensures.next items (λ value. refl) refl) c.holds.ensures.waits
    c.holds.ensures.items

-- ---- run_row

pub run_row-returns-in-Waits : goal.run_row-returns-in-Waits
run_row-returns-in-Waits t c =
    let programs = c.args.programs.now in
    both_ok c.holds.result _ _ _
    (λ ran waits items. goes_then_runs programs 12 (row_from programs c.args.listing c.args.first)
    (row_from programs c.args.listing c.row.place) c.args.self.now c.row.self
    c.run_inner.new.self ran c.holds.new.self c.row.invariant.goes
    (row_waits programs c.args.listing c.row.place c.in-Some.code c.row.self c.run_inner.new.self
    c.in_ok-given.field-0 c.run_inner.new.held c.in-Some.ensures.statement c.in_ok-given.ensures
    c.holds.new.self ran c.in-Waits.is waits c.holds.ensures.next items)) c.holds.ensures.waits
    c.holds.ensures.items

pub run_row-returns-then-not-is_normal : goal.run_row-returns-then-not-is_normal
run_row-returns-then-not-is_normal t c =
    let programs = c.args.programs.now in
    let place = c.row.place in
    goes_then_runs programs 12 (row_from programs c.args.listing c.args.first)
    (row_from programs c.args.listing place) c.args.self.now c.row.self c.run_inner.new.self
    (ran_of.Given c.in-Given.given) c.run_inner.new.held c.row.invariant.goes
    (row_ended programs c.args.listing place c.in-Some.code c.row.self c.run_inner.new.self
    c.in_ok-given.field-0 c.run_inner.new.held c.in-Some.ensures.statement c.in_ok-given.ensures
    c.in-Given.given c.in-Given.is
    (λ normal. false≢true (sym c.if-not-is_normal.true ∙ c.is_normal.ensures.1 normal)))

pub run_row-returns-in-Stopped : goal.run_row-returns-in-Stopped
run_row-returns-in-Stopped t c =
    let programs = c.args.programs.now in
    let place = c.row.place in
    goes_then_runs programs 12 (row_from programs c.args.listing c.args.first)
    (row_from programs c.args.listing place) c.args.self.now c.row.self c.run_inner.new.self
    (ran_of.Stopped c.in-Stopped.cause) c.run_inner.new.held c.row.invariant.goes
    (row_stopped programs c.args.listing place c.in-Some.code c.row.self c.run_inner.new.self
    c.in_ok-given.field-0 c.run_inner.new.held c.in-Some.ensures.statement c.in_ok-given.ensures
    c.in-Stopped.cause c.in-Stopped.is)

pub run_row-row-preserved : goal.run_row-row-preserved
run_row-row-preserved t c =
    let programs = c.args.programs.now in
    let place = c.row.place in
    let normal : c.in_ok-given.field-0 ≡ ran_of.Given given.Normal = c.in-Given.is
    ∙ ap (λ (handed : Given). ran_of.Given handed)
    (c.is_normal.ensures.0 c.if-not-is_normal.false) in
    record {
      goes = goes_then_goes programs (row_from programs c.args.listing c.args.first)
          (row_from programs c.args.listing place)
          (row_from programs c.args.listing (place + 1)) c.args.self.now c.row.self
          c.run_inner.new.self c.row.invariant.goes
          (row_on programs c.args.listing place c.in-Some.code c.row.self c.run_inner.new.self
          c.in_ok-given.field-0 c.run_inner.new.held c.in-Some.ensures.statement
          c.in_ok-given.ensures normal);
      clear = row_clear programs c.args.listing place c.in-Some.code c.row.self
          c.run_inner.new.self c.in_ok-given.field-0 c.run_inner.new.held
          c.in-Some.ensures.statement c.in_ok-given.ensures normal;
    }

pub run_row-returns : goal.run_row-returns
run_row-returns t c =
    let programs = c.args.programs.now in
    goes_then_runs programs 12 (row_from programs c.args.listing c.args.first)
    (row_from programs c.args.listing c.row.place) c.args.self.now c.row.self c.row.self
    (ran_of.Given given.Normal) c.row.held c.row.invariant.goes
    (row_end programs c.args.listing c.row.place c.row.self c.row.held
    c.in_default.ensures.statement c.row.invariant.clear)

-- ---- run_first

pub run_first-returns-in-Value : goal.run_first-returns-in-Value
run_first-returns-in-Value t c =
    let programs = c.args.programs.now in
    let given_loop = c.args.given_loop in
    let old = c.args.self.now in
    let starts = starts_loop programs c.args.first given_loop in
    let again = turns programs (loop_task programs given_loop) in
    IfOk-weaker c.run_loop-in-Value.result _ _
    (λ ran runs. goes_then_runs programs 12 starts again old c.reach.new.self
    c.run_loop-in-Value.new.self ran c.run_loop-in-Value.new.held
    (reached_goes programs (evaluates programs c.in-FirstExpression.expression) (λ value. again)
    starts again old c.reach.new.self c.in_ok-found-in-FirstExpression.field-0 c.reach.new.held
    c.in-Value.found
    (λ next. first_expression programs c.args.first given_loop c.in-FirstExpression.expression
    (world_of programs old) next c.in-FirstExpression.is)
    c.in_ok-found-in-FirstExpression.ensures c.in-Value.is refl).0 runs)
    c.run_loop-in-Value.ensures

pub run_first-returns-in-Stopped : goal.run_first-returns-in-Stopped
run_first-returns-in-Stopped t c =
    let programs = c.args.programs.now in
    let given_loop = c.args.given_loop in
    let old = c.args.self.now in
    let first = evaluates programs c.in-FirstExpression.expression in
    let more : Value → Action Completion = λ value. turns programs (loop_task programs given_loop) in
    same_runs programs 12 (starts_loop programs c.args.first given_loop) (behind first more) old
    c.reach.new.self (ran_of.Stopped c.in-Stopped.cause) c.reach.new.held
    (λ next. first_expression programs c.args.first given_loop c.in-FirstExpression.expression
    (world_of programs old) next c.in-FirstExpression.is)
    (reached_stop programs first more old c.reach.new.self
    c.in_ok-found-in-FirstExpression.field-0 c.reach.new.held c.in-Stopped.cause
    c.in_ok-found-in-FirstExpression.ensures c.in-Stopped.is)

pub run_first-returns-in-Waits : goal.run_first-returns-in-Waits
run_first-returns-in-Waits t c =
    let programs = c.args.programs.now in
    let given_loop = c.args.given_loop in
    let old = c.args.self.now in
    let first = evaluates programs c.in-FirstExpression.expression in
    let more : Value → Action Completion = λ value. turns programs (loop_task programs given_loop) in
    both_ok c.holds.result _ _ _
    (λ ran waits items. same_runs programs 12 (starts_loop programs c.args.first given_loop)
    (behind first more) old c.reach.new.self ran c.holds.new.self
    (λ next. first_expression programs c.args.first given_loop c.in-FirstExpression.expression
    (world_of programs old) next c.in-FirstExpression.is)
    (reached_wait programs first more old c.reach.new.self
    c.in_ok-found-in-FirstExpression.field-0 c.reach.new.held c.holds.new.self
    (NextTurn given_loop) ran c.in_ok-found-in-FirstExpression.ensures c.in-Waits.is waits
    c.holds.ensures.next items (λ value. refl) refl))
    c.holds.ensures.waits c.holds.ensures.items

-- ---- run_first_var

pub run_first_var-returns-then-not-take_step : goal.run_first_var-returns-then-not-take_step
run_first_var-returns-then-not-take_step t c =
    let programs = c.args.programs.now in
    let given_loop = c.args.given_loop in
    let code = c.args.code in
    let old = c.args.self.now in
    let turned = and_then (declares programs code 0) (turns programs (loop_task programs given_loop)) in
    same_runs programs 12 (starts_loop programs (FirstVar code) given_loop) (step turned) old
    c.take_step.new.self (ran_of.Stopped Budget) c.args.held.now
    (λ next. first_var programs code given_loop (world_of programs old) next)
    (step_stops programs 12 turned old c.take_step.new.self c.take_step.result c.args.held.now
    c.take_step.ensures.step c.if-not-take_step.true c.take_step.ensures.stays)

pub run_first_var-returns-in-Given : goal.run_first_var-returns-in-Given
run_first_var-returns-in-Given t c =
    let programs = c.args.programs.now in
    let given_loop = c.args.given_loop in
    let code = c.args.code in
    let old = c.args.self.now in
    let starts = starts_loop programs (FirstVar code) given_loop in
    let first = declares programs code 0 in
    let again = turns programs (loop_task programs given_loop) in
    let stepped = step_goes programs (and_then first again) old c.take_step.new.self
    c.take_step.result c.take_step.ensures.step c.if-not-take_step.false c.take_step.ensures.stays in
    let declared = first_goes programs first again old c.take_step.new.self c.run_var.new.self
    c.in_ok-given.field-0 c.in-Given.given c.run_var.new.held stepped
    (c.take_step.ensures.less c.if-not-take_step.false) c.in_ok-given.ensures c.in-Given.is in
    IfOk-weaker c.run_loop.result _ _
    (λ ran runs. goes_then_runs programs 12 starts again old c.run_var.new.self
    c.run_loop.new.self ran c.run_loop.new.held
    (goes_then_goes programs starts (step (and_then first again)) again old old
    c.run_var.new.self
    (goes_same programs starts (step (and_then first again)) old
    (λ next. first_var programs code given_loop (world_of programs old) next)) declared.0) runs)
    c.run_loop.ensures

pub run_first_var-returns-in-Stopped : goal.run_first_var-returns-in-Stopped
run_first_var-returns-in-Stopped t c =
    let programs = c.args.programs.now in
    let given_loop = c.args.given_loop in
    let code = c.args.code in
    let old = c.args.self.now in
    let first = declares programs code 0 in
    let again = turns programs (loop_task programs given_loop) in
    let turned = and_then first again in
    let stopped = ran_of.Stopped c.in-Stopped.cause in
    same_runs programs 12 (starts_loop programs (FirstVar code) given_loop) (step turned) old
    c.run_var.new.self stopped c.run_var.new.held
    (λ next. first_var programs code given_loop (world_of programs old) next)
    (goes_then_runs programs 12 (step turned) turned old c.take_step.new.self c.run_var.new.self
    stopped c.run_var.new.held
    (step_goes programs turned old c.take_step.new.self c.take_step.result
    c.take_step.ensures.step c.if-not-take_step.false c.take_step.ensures.stays)
    (first_stops programs 12 first again c.take_step.new.self c.run_var.new.self
    c.in_ok-given.field-0 c.in-Stopped.cause c.run_var.new.held c.in_ok-given.ensures
    c.in-Stopped.is))

pub run_first_var-returns-in-Waits : goal.run_first_var-returns-in-Waits
run_first_var-returns-in-Waits t c =
    let programs = c.args.programs.now in
    let given_loop = c.args.given_loop in
    let code = c.args.code in
    let old = c.args.self.now in
    let first = declares programs code 0 in
    let turned = and_then first (turns programs (loop_task programs given_loop)) in
    both_ok c.holds.result _ _ _
    (λ ran waits items. same_runs programs 12 (starts_loop programs (FirstVar code) given_loop)
    (step turned) old c.run_var.new.self ran c.holds.new.self
    (λ next. first_var programs code given_loop (world_of programs old) next)
    (step_runs programs 14 12 (step turned) turned old c.take_step.new.self c.run_var.new.self
    ran c.holds.new.self
    (step_goes programs turned old c.take_step.new.self c.take_step.result
    c.take_step.ensures.step c.if-not-take_step.false c.take_step.ensures.stays)
    (c.take_step.ensures.less c.if-not-take_step.false) (omega arith)
    (waits_behind programs 12 first turned c.take_step.new.self c.run_var.new.self
    c.in_ok-given.field-0 ran c.run_var.new.held c.holds.new.self (NextTurn given_loop)
    c.in_ok-given.ensures c.in-Waits.is waits c.holds.ensures.next items
    (λ w next. sym (declared-turns programs code given_loop w next)) refl)))
    c.holds.ensures.waits c.holds.ensures.items

-- ---- run_body

pub run_body-returns-in-Some-clause-body : goal.run_body-returns-in-Some-clause-body
run_body-returns-in-Some-clause-body t c =
    let programs = c.args.programs.now in
    let given_loop = c.args.given_loop in
    body_ends programs given_loop c.args.self.now c.run_inner.new.self c.in_ok-given.field-0
    c.run_inner.new.held c.in_ok-given.ensures c.in-Given.given c.in-Some.last c.in-Given.is
    (c.in-Some.ensures.ended programs given_loop)
    (c.in-Some.ensures.live c.run_inner.new.self.heap)

pub run_body-returns-in-None-clause-body : goal.run_body-returns-in-None-clause-body
run_body-returns-in-None-clause-body t c =
    let programs = c.args.programs.now in
    let given_loop = c.args.given_loop in
    body_goes programs given_loop c.args.self.now c.run_inner.new.self c.in_ok-given.field-0
    c.run_inner.new.held c.in_ok-given.ensures c.in-Given.given c.in-Given.is
    (c.in-None.ensures.again programs given_loop)

pub run_body-returns-in-Stopped-clause-body : goal.run_body-returns-in-Stopped-clause-body
run_body-returns-in-Stopped-clause-body t c =
    body_stops c.args.programs.now c.args.given_loop c.args.self.now c.run_inner.new.self
    c.in_ok-given.field-0 c.run_inner.new.held c.in_ok-given.ensures c.in-Stopped.cause
    c.in-Stopped.is

pub run_body-returns-in_ok-holds-in-Waits-clause-body : goal.run_body-returns-in_ok-holds-in-Waits-clause-body
run_body-returns-in_ok-holds-in-Waits-clause-body t c =
    body_waits c.args.programs.now c.args.given_loop c.args.self.now c.run_inner.new.self
    c.in_ok-given.field-0 c.run_inner.new.held c.in_ok-given.ensures c.holds.new.self
    c.in_ok-holds-in-Waits.field-0 c.in-Waits.is c.in_ok-holds-in-Waits.ensures.waits
    c.in_ok-holds-in-Waits.ensures.next c.in_ok-holds-in-Waits.ensures.items
