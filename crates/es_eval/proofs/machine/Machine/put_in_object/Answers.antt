use Rattle.std.proofs.Common.{ap}
use Rattle.std.specs.Prelude.{Bool, Option, Some, None, if◌then◌else◌}
use Rattle.es_values.specs.Charges.{put_charge}
use Rattle.es_values.specs.declared.values.Value.{Value}
use Rattle.es_eval.specs.Actions.{charged, gives}
use Rattle.es_eval.specs.declared.works.Given.TheVariants as given_of
use Rattle.es_eval.specs.devices.Machines.{run_from}
use Rattle.es_eval.specs.Members.{put_member}
use Rattle.es_eval.proofs.ArmLemmas.{carried-run, stopped-run}
use Rattle.es_eval.proofs.machine.Machine.put_in_object.Goals as goal

pub returns-then-not-branch-clause-run : goal.returns-then-not-branch-clause-run
returns-then-not-branch-clause-run c programs =
    let found : Bool → Option Value = λ put. if put then Some c.args.given else None in
    stopped-run programs c.args.self.now c.put_property.new.self
    (charged (λ heap. put_charge heap c.args.object c.args.key.now c.args.given)
    (put_member c.args.object c.args.key.now c.args.given)) (λ value. gives (given_of.Value value))
    (found c.in_ok-put_property.field-0) c.stopped.result c.in_ok-put_property.ensures.put
    (ap found c.if-not-branch.true) c.stopped.ensures

pub returns-clause-run : goal.returns-clause-run
returns-clause-run c programs =
    let found : Bool → Option Value = λ put. if put then Some c.args.given else None in
    carried-run programs c.args.self.now c.put_property.new.self c.put_property.new.self
    (charged (λ heap. put_charge heap c.args.object c.args.key.now c.args.given)
    (put_member c.args.object c.args.key.now c.args.given)) (λ value. gives (given_of.Value value))
    (found c.in_ok-put_property.field-0) c.args.given c.value.result
    c.in_ok-put_property.ensures.put (ap found c.if-not-branch.false) c.put_property.ensures.stays
    (ap (run_from programs c.put_property.new.self) c.value.ensures)
