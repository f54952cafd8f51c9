use Rattle.std.proofs.lemmas.Result.{IfOk-weaker}
use Rattle.es_shapes.specs.Codes.{declared_by}
use Rattle.es_shapes.specs.devices.Parts.{expression_at}
use Rattle.es_shapes.specs.devices.Shapes.{shaped}
use Rattle.es_eval.specs.Rows.{expression_row}
use Rattle.es_eval.specs.Unbounded.{called}
use Rattle.es_eval.specs.devices.Works.{enters}
use Rattle.es_eval.proofs.ArmLemmas.{evaluated-run}
use Rattle.es_eval.proofs.SettleLemmas.{reached_goes}
use Rattle.es_eval.proofs.machine.Machine.evaluate.Goals as goal

pub returns-clause-run : goal.returns-clause-run
returns-clause-run c =
    let programs = c.args.programs.now in
    IfOk-weaker c.begin.result _ _
    (λ next run. evaluated-run programs c.args.self.now c.take_step.new.self c.begin.new.self
    c.take_step.result (expression_at programs c.args.code)
    (shaped programs c.args.code c.in_ok-shape.shape) next c.take_step.ensures.step
    c.if-not-take_step.false
    c.take_step.ensures.stays c.law_of_unfolding.ensures.expressions c.in_ok-shape.ensures run)
    c.begin.ensures.run

pub returns-then-is_direct-clause-run : goal.returns-then-is_direct-clause-run
returns-then-is_direct-clause-run c =
    let programs = c.args.programs.now in
    let found = shaped programs c.args.code c.in_ok-shape.shape in
    IfOk-weaker c.settle.result _ _
    (λ next settles. evaluated-run programs c.args.self.now c.take_step.new.self c.settle.new.self
    c.take_step.result (expression_at programs c.args.code) found next c.take_step.ensures.step
    c.if-not-take_step.false c.take_step.ensures.stays c.law_of_unfolding.ensures.expressions
    c.in_ok-shape.ensures
    (reached_goes programs (expression_row (declared_by programs) (called (declared_by programs))
    (enters programs) found) c.take_step.new.self c.shape_of.new.self c.settle.new.self
    c.in_ok-reached.reached c.shape_of.new.held next c.in_ok-reached.ensures
    (settles programs))) c.settle.ensures.run
