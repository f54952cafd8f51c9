use Rattle.std.proofs.Common.{ap, sym, subst}
use Rattle.std.proofs.lemmas.Result.{IfOk-weaker}
use Rattle.es_eval.specs.Actions.{behind}
use Rattle.es_shapes.specs.devices.Parts.{expression_at}
use Rattle.es_eval.specs.devices.Machines.{GoesOn}
use Rattle.es_eval.specs.Rows.{entered_place, place_row}
use Rattle.es_shapes.specs.devices.Shapes.{shaped}
use Rattle.es_shapes.specs.Sources.{target_of}
use Rattle.es_shapes.specs.Syntax.{Target}
use Rattle.es_eval.specs.devices.Works.{enters, use_row}
use Rattle.es_eval.proofs.ArmLemmas.{stepped-run, unstepped-run}
use Rattle.es_eval.proofs.machine.Machine.enter_target.Goals as goal

pub returns-then-not-take_step-clause-run : goal.returns-then-not-take_step-clause-run
returns-then-not-take_step-clause-run c =
    let programs = c.args.programs.now in
    unstepped-run programs c.args.self.now c.take_step.new.self c.take_step.result
    (behind (place_row (enters programs) (target_of (expression_at programs c.args.target)))
    (use_row programs c.args.purpose)) c.stopped.result c.take_step.ensures.step
    c.if-not-take_step.true c.stopped.ensures

pub returns-in-Ok-clause-run : goal.returns-in-Ok-clause-run
returns-in-Ok-clause-run c =
    let programs = c.args.programs.now in
    IfOk-weaker c.enter_shaped.result _ _
    (λ next run. subst (λ (t : Target). GoesOn programs c.args.self.now
    (behind (entered_place (enters programs) t) (use_row programs c.args.purpose))
    c.enter_shaped.new.self next)
    (sym (ap target_of c.in-Ok.ensures))
    (stepped-run programs c.args.self.now c.take_step.new.self c.enter_shaped.new.self
    c.take_step.result (behind (place_row (enters programs)
    (target_of (shaped programs c.args.target c.in-Ok.shape)))
    (use_row programs c.args.purpose)) next c.take_step.ensures.step
    c.if-not-take_step.false c.take_step.ensures.stays run)) c.enter_shaped.ensures.run
