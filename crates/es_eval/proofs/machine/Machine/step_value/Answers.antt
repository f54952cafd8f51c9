use Rattle.std.specs.Prelude.{if◌then◌else◌}
use Rattle.std.proofs.lemmas.Result.{IfOk-weaker}
use Rattle.es_values.specs.declared.values.Value.TheVariants.{Number}
use Rattle.es_shapes.specs.Operators.{stepped}
use Rattle.es_eval.specs.Actions.{and_then, as_number, gives}
use Rattle.es_eval.specs.Members.{write_name}
use Rattle.es_eval.proofs.FoundLemmas.{carried-finds, stays-on, uncarried-finds}
use Rattle.es_eval.proofs.machine.Machine.step_value.Goals as goal

pub returns-in-Some-clause-finds : goal.returns-in-Some-clause-finds
returns-in-Some-clause-finds c =
    IfOk-weaker c.step_number.result _ _
    (λ found finds. carried-finds c.args.programs.now (as_number c.args.before.now)
    (λ number. and_then (write_name c.args.name.now (Number (stepped c.args.down number)))
    (gives (Number (if c.args.in_front then stepped c.args.down number else number)))) c.args.self.now
    c.to_number.new.self c.step_number.new.self c.in_ok-number.field-0 c.in-Some.number found
    c.in_ok-number.ensures.number c.in-Some.is finds) c.step_number.ensures.finds

pub returns-in-None-clause-finds : goal.returns-in-None-clause-finds
returns-in-None-clause-finds c =
    uncarried-finds c.args.programs.now (as_number c.args.before.now)
    (λ number. and_then (write_name c.args.name.now (Number (stepped c.args.down number)))
    (gives (Number (if c.args.in_front then stepped c.args.down number else number)))) c.args.self.now
    c.to_number.new.self c.in_ok-number.field-0 c.in_ok-number.ensures.number c.in-None.is

pub returns-in-Some-clause-stays : goal.returns-in-Some-clause-stays
returns-in-Some-clause-stays c =
    stays-on c.args.self.now c.to_number.new.self c.step_number.new.self c.to_number.ensures.stays
    c.step_number.ensures.stays
