use Rattle.std.proofs.Common.{◌∙◌, ap, subst, sym}
use Rattle.std.proofs.lemmas.Result.{IfOk-weaker}
use Rattle.es_values.specs.declared.values.Value.{Value}
use Rattle.es_eval.specs.Actions.{Action, behind, gives}
use Rattle.es_shapes.specs.Codes.{declared_by}
use Rattle.es_shapes.specs.devices.Parts.{expression_at}
use Rattle.es_eval.specs.devices.Machines.{GoesOn}
use Rattle.es_shapes.specs.Operators.{type_text}
use Rattle.es_eval.specs.Rows.{expression_row}
use Rattle.es_shapes.specs.devices.Shapes.{shaped}
use Rattle.es_shapes.specs.Syntax.{Expression}
use Rattle.es_shapes.specs.Syntax.Expression.{Typeof}
use Rattle.es_eval.specs.Unbounded.{called}
use Rattle.es_eval.specs.devices.Works.{as_value, enters}
use Rattle.es_eval.proofs.ShapeRows.{other-row, typeof-other}
use Rattle.es_eval.proofs.machine.Machine.enter_typeof.Goals as goal

pub returns-clause-run : goal.returns-clause-run
returns-clause-run c =
    let programs = c.args.programs.now in
    let functions = declared_by programs in
    IfOk-weaker c.evaluate_then.result _ _
    (λ next run. subst (λ (action : Action Value). GoesOn programs c.args.self.now
    (as_value action) c.evaluate_then.new.self next)
    (sym (other-row
    (λ e. expression_row functions (called functions) (enters programs) (Typeof e))
    (λ e. behind (enters programs e) (λ value. gives (type_text value)))
    (expression_at programs c.args.operand) (shaped programs c.args.operand c.in_ok-name.field-0)
    c.in_ok-name.ensures
    (typeof-other programs c.args.operand c.in_ok-name.field-0 functions (called functions)
    (enters programs) c.in_default.not-Name)))
    (run programs)) c.evaluate_then.ensures.run

pub returns-in-Name-clause-run : goal.returns-in-Name-clause-run
unfolding shaped
returns-in-Name-clause-run c =
    let programs = c.args.programs.now in
    let functions = declared_by programs in
    IfOk-weaker c.typeof_name.result _ _
    (λ next run. subst (λ (e : Expression). GoesOn programs c.args.self.now
    (as_value (expression_row functions (called functions) (enters programs) (Typeof e)))
    c.typeof_name.new.self next)
    (sym (c.in_ok-name.ensures ∙ ap (shaped programs c.args.operand) c.in-Name.is))
    run) c.typeof_name.ensures.run
