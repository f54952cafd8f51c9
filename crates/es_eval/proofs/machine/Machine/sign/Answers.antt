use Rattle.std.proofs.Common.{◌∙◌, ap, subst, sym}
use Rattle.es_values.specs.declared.values.Value.{Value}
use Rattle.es_eval.specs.declared.works.Given.TheVariants as given
use Rattle.es_eval.specs.declared.works.Now.TheVariants as now
use Rattle.es_eval.specs.Actions.{Action, as_number, gives}
use Rattle.es_eval.specs.devices.Machines.{GoesOn, run_from}
use Rattle.es_shapes.specs.Operators.{signed_number}
use Rattle.es_eval.specs.devices.Works.{as_value}
use Rattle.es_eval.proofs.ArmLemmas.{carried-run, signs-number, stopped-run}
use Rattle.es_eval.proofs.machine.Machine.sign.Goals as goal

pub returns-in-Some-clause-run : goal.returns-in-Some-clause-run
returns-in-Some-clause-run c programs =
    let found = c.value-in-Some.ensures ∙ ap (λ (value : Value). now.Gives (given.Value value)) c.signed.ensures in
    subst (λ (action : Action Value). GoesOn programs c.args.self.now (as_value action)
    c.to_number.new.self c.value-in-Some.result)
    (sym (signs-number c.args.sign c.args.operand.now c.in_default.not-Not))
    (carried-run programs c.args.self.now c.to_number.new.self c.to_number.new.self
    (as_number c.args.operand.now)
    (λ number. as_value (gives (signed_number c.args.sign number))) c.in_ok-number.field-0
    c.in-Some.number c.value-in-Some.result c.in_ok-number.ensures.number c.in-Some.is
    c.to_number.ensures.stays (ap (run_from programs c.to_number.new.self) found))

pub returns-in-None-clause-run : goal.returns-in-None-clause-run
returns-in-None-clause-run c programs =
    subst (λ (action : Action Value). GoesOn programs c.args.self.now (as_value action)
    c.to_number.new.self c.stopped.result)
    (sym (signs-number c.args.sign c.args.operand.now c.in_default.not-Not))
    (stopped-run programs c.args.self.now c.to_number.new.self (as_number c.args.operand.now)
    (λ number. as_value (gives (signed_number c.args.sign number))) c.in_ok-number.field-0
    c.stopped.result c.in_ok-number.ensures.number c.in-None.is c.stopped.ensures)
