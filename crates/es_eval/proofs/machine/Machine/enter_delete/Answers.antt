use Rattle.std.proofs.Common.{◌∙◌, ap, subst, sym}
use Rattle.std.proofs.lemmas.Result.{IfOk-weaker}
use Rattle.es_values.specs.declared.values.Value.{Value}
use Rattle.es_values.specs.declared.values.Value.TheVariants.{Bool as Boolean}
use Rattle.std.specs.Prelude.{false}
use Rattle.es_eval.specs.Actions.{Action, behind, gives}
use Rattle.es_shapes.specs.devices.Parts.{expression_at}
use Rattle.es_eval.specs.devices.Machines.{GoesOn, run_from}
use Rattle.es_eval.specs.Rows.{delete_row}
use Rattle.es_shapes.specs.devices.Shapes.{shaped}
use Rattle.es_shapes.specs.Syntax.{Expression}
use Rattle.es_eval.specs.devices.Works.{as_value, enters}
use Rattle.es_eval.proofs.ArmLemmas.{stepped-run, unstepped-run}
use Rattle.es_eval.proofs.ShapeRows.{delete-other, other-row}
use Rattle.es_eval.proofs.machine.Machine.enter_delete.Goals as goal

pub returns-then-not-take_step-clause-run : goal.returns-then-not-take_step-clause-run
unfolding shaped
returns-then-not-take_step-clause-run c =
    let programs = c.args.programs.now in
    subst (λ (e : Expression). GoesOn programs c.args.self.now
    (as_value (delete_row (enters programs) e)) c.take_step.new.self c.stopped.result)
    (sym (c.in_ok-shape.ensures ∙ ap (shaped programs c.args.operand) c.in-Name.is))
    (unstepped-run programs c.args.self.now c.take_step.new.self c.take_step.result
    (as_value (gives (Boolean false))) c.stopped.result c.take_step.ensures.step
    c.if-not-take_step.true c.stopped.ensures)

pub returns-in-Name-clause-run : goal.returns-in-Name-clause-run
unfolding shaped
returns-in-Name-clause-run c =
    let programs = c.args.programs.now in
    subst (λ (e : Expression). GoesOn programs c.args.self.now
    (as_value (delete_row (enters programs) e)) c.take_step.new.self c.value.result)
    (sym (c.in_ok-shape.ensures ∙ ap (shaped programs c.args.operand) c.in-Name.is))
    (stepped-run programs c.args.self.now c.take_step.new.self c.take_step.new.self
    c.take_step.result (as_value (gives (Boolean false))) c.value.result c.take_step.ensures.step
    c.if-not-take_step.false
    c.take_step.ensures.stays (ap (run_from programs c.take_step.new.self) c.value.ensures))

pub returns-in-Index-clause-run : goal.returns-in-Index-clause-run
unfolding shaped
returns-in-Index-clause-run c =
    let programs = c.args.programs.now in
    IfOk-weaker c.step_then.result _ _
    (λ next run. subst (λ (e : Expression). GoesOn programs c.args.self.now
    (as_value (delete_row (enters programs) e)) c.step_then.new.self next)
    (sym (c.in_ok-shape.ensures ∙ ap (shaped programs c.args.operand) c.in-Index.is))
    (run programs)) c.step_then.ensures.run

pub returns-in-Member-clause-run : goal.returns-in-Member-clause-run
unfolding shaped
returns-in-Member-clause-run c =
    let programs = c.args.programs.now in
    IfOk-weaker c.step_then-in-Member.result _ _
    (λ next run. subst (λ (e : Expression). GoesOn programs c.args.self.now
    (as_value (delete_row (enters programs) e)) c.step_then-in-Member.new.self next)
    (sym (c.in_ok-shape.ensures ∙ ap (shaped programs c.args.operand) c.in-Member.is))
    (run programs)) c.step_then-in-Member.ensures.run

pub returns-clause-run : goal.returns-clause-run
returns-clause-run c =
    let programs = c.args.programs.now in
    IfOk-weaker c.evaluate_then.result _ _
    (λ next run. subst (λ (action : Action Value). GoesOn programs c.args.self.now
    (as_value action) c.evaluate_then.new.self next)
    (sym (other-row (delete_row (enters programs))
    (λ e. behind (enters programs e) (λ value. gives (Boolean false)))
    (expression_at programs c.args.operand) (shaped programs c.args.operand c.in_ok-shape.shape)
    c.in_ok-shape.ensures
    (delete-other programs c.args.operand c.in_ok-shape.shape (enters programs)
    c.in_default.not-Name c.in_default.not-Index c.in_default.not-Member)))
    (run programs)) c.evaluate_then.ensures.run
