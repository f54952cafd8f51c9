use Rattle.std.proofs.Common.{ap, subst, sym}
use Rattle.es_values.specs.declared.values.Value.{Value}
use Rattle.es_values.specs.declared.values.Value.TheVariants.{Number}
use Rattle.es_shapes.specs.Operators.{signed_number}
use Rattle.es_eval.specs.declared.outcomes.StopCause.TheVariants.{Budget}
use Rattle.es_eval.specs.declared.found.Found.TheVariants as found_of
use Rattle.es_eval.specs.Actions.{Action, as_number, gives}
use Rattle.es_eval.specs.devices.Machines.{world_of}
use Rattle.es_eval.specs.devices.Finding.{Finds}
use Rattle.es_eval.proofs.ArmLemmas.{signs-number}
use Rattle.es_eval.proofs.FoundLemmas.{carried-finds, uncarried-finds}
use Rattle.es_eval.proofs.machine.Machine.signed_value.Goals as goal

pub returns-in-Some-clause-finds : goal.returns-in-Some-clause-finds
returns-in-Some-clause-finds c programs =
    let found = found_of.Value (Number c.signed.result) in
    let mid = c.to_number.new.self in
    subst (λ (action : Action Value). Finds programs action c.args.self.now mid found)
    (sym (signs-number c.args.sign c.args.operand.now c.in_default.not-Not))
    (carried-finds programs (as_number c.args.operand.now)
    (λ number. gives (signed_number c.args.sign number)) c.args.self.now mid mid
    c.in_ok-number.field-0 c.in-Some.number found c.in_ok-number.ensures.number c.in-Some.is
    (λ next. ap (λ (value : Value). next value (world_of programs mid)) (sym c.signed.ensures)))

pub returns-in-None-clause-finds : goal.returns-in-None-clause-finds
returns-in-None-clause-finds c programs =
    subst (λ (action : Action Value). Finds programs action c.args.self.now c.to_number.new.self
    (found_of.Stopped Budget))
    (sym (signs-number c.args.sign c.args.operand.now c.in_default.not-Not))
    (uncarried-finds programs (as_number c.args.operand.now)
    (λ number. gives (signed_number c.args.sign number)) c.args.self.now c.to_number.new.self
    c.in_ok-number.field-0 c.in_ok-number.ensures.number c.in-None.is)
