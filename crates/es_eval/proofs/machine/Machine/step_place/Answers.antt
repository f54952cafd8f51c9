use Rattle.std.proofs.lemmas.Result.{IfOk-weaker}
use Rattle.es_values.specs.declared.values.Value.TheVariants.{Number}
use Rattle.std.specs.Prelude.{if◌then◌else◌}
use Rattle.es_eval.specs.Actions.{and_then, as_number, gives}
use Rattle.es_eval.specs.Members.{write_place}
use Rattle.es_shapes.specs.Operators.{stepped}
use Rattle.es_eval.specs.devices.Works.{as_value, place_of}
use Rattle.es_eval.proofs.ArmLemmas.{carried-run, stopped-run}
use Rattle.es_eval.proofs.machine.Machine.step_place.Goals as goal

pub returns-in-None-clause-run : goal.returns-in-None-clause-run
returns-in-None-clause-run c =
    let programs = c.args.programs.now in
    let place = place_of c.args.place in
    stopped-run programs c.args.self.now c.to_number.new.self (as_number c.args.before.now)
    (λ number. as_value (and_then (write_place place (Number (stepped c.args.down number)))
    (gives (Number (if c.args.in_front then stepped c.args.down number else number)))))
    c.in-Ok.found c.stopped.result c.in-Ok.ensures.number c.in-None.is c.stopped.ensures

pub returns-in-Some-clause-run : goal.returns-in-Some-clause-run
returns-in-Some-clause-run c =
    let programs = c.args.programs.now in
    let place = place_of c.args.place in
    IfOk-weaker c.write_step.result _ _
    (λ next run. carried-run programs c.args.self.now c.to_number.new.self
    c.write_step.new.self (as_number c.args.before.now)
    (λ number. as_value (and_then (write_place place (Number (stepped c.args.down number)))
    (gives (Number (if c.args.in_front then stepped c.args.down number else number)))))
    c.in-Ok.found c.in-Some.number next c.in-Ok.ensures.number c.in-Some.is
    c.in-Ok.ensures.stays run) c.write_step.ensures.run
