use Rattle.std.proofs.Common.{◌∙◌, ap}
use Rattle.es_values.specs.declared.values.Value.{Value}
use Rattle.es_eval.specs.declared.works.Given.TheVariants as given
use Rattle.es_eval.specs.declared.works.Now.TheVariants as now
use Rattle.es_shapes.specs.Operators.{type_text}
use Rattle.es_eval.specs.Rows.{typeof_name}
use Rattle.es_eval.specs.devices.Works.{as_value}
use Rattle.es_eval.proofs.ArmLemmas.{stepped-run, unstepped-run}
use Rattle.es_eval.proofs.ShapeRows.{typeof-run}
use Rattle.es_eval.proofs.machine.Machine.typeof_name.Goals as goal

pub returns-then-not-take_step-clause-run : goal.returns-then-not-take_step-clause-run
returns-then-not-take_step-clause-run c =
    let programs = c.args.programs.now in
    unstepped-run programs c.args.self.now c.take_step.new.self c.take_step.result
    (as_value (typeof_name c.args.name.now)) c.stopped.result c.take_step.ensures.step
    c.if-not-take_step.true c.stopped.ensures

pub returns-clause-run : goal.returns-clause-run
returns-clause-run c =
    let programs = c.args.programs.now in
    stepped-run programs c.args.self.now c.take_step.new.self c.take_step.new.self
    c.take_step.result (as_value (typeof_name c.args.name.now)) c.value.result
    c.take_step.ensures.step c.if-not-take_step.false c.take_step.ensures.stays
    (typeof-run programs c.take_step.new.self c.args.name.now c.in_ok-read_name.field-0
    c.value.result c.in_ok-read_name.ensures.value
    (c.value.ensures ∙ ap (λ (text : Value). now.Gives (given.Value text))
    (c.in_ok-type_text.ensures ∙ ap type_text c.unwrap_or-found.ensures)))
