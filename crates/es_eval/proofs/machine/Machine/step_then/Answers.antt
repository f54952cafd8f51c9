use Rattle.std.proofs.lemmas.Result.{IfOk-weaker}
use Rattle.es_eval.specs.declared.works.Given.TheVariants as given
use Rattle.es_eval.specs.devices.Works.{does, evaluates}
use Rattle.es_eval.proofs.ArmLemmas.{stepped-run, unstepped-run}
use Rattle.es_eval.proofs.machine.Machine.step_then.Goals as goal

pub returns-then-not-take_step-clause-run : goal.returns-then-not-take_step-clause-run
returns-then-not-take_step-clause-run c programs =
    unstepped-run programs c.args.self.now c.take_step.new.self c.take_step.result
    (λ w next. evaluates programs c.args.base w
    (λ value after. does programs c.args.item (given.Value value) after next)) c.stopped.result
    c.take_step.ensures.step
    c.if-not-take_step.true c.stopped.ensures

pub returns-clause-run : goal.returns-clause-run
returns-clause-run c =
    IfOk-weaker c.evaluate_then.result _ _
    (λ next run programs. stepped-run programs c.args.self.now c.take_step.new.self
    c.evaluate_then.new.self c.take_step.result
    (λ w next. evaluates programs c.args.base w
    (λ value after. does programs c.args.item (given.Value value) after next)) next
    c.take_step.ensures.step
    c.if-not-take_step.false
    c.take_step.ensures.stays (run programs)) c.evaluate_then.ensures.run
