use Rattle.std.proofs.Common.{ap}
use Rattle.std.specs.Prelude.{Bool, Option, Some, None, if◌then◌else◌}
use Rattle.es_values.specs.Charges.{put_charge}
use Rattle.es_values.specs.declared.values.Value.{Value}
use Rattle.es_eval.specs.Actions.{charged}
use Rattle.es_eval.specs.Members.{put_member}
use Rattle.es_eval.proofs.ReachLemmas.{carried_stopped, carried_value}
use Rattle.es_eval.proofs.machine.Machine.reach_put.Goals as goal

pub returns-then-not-branch : goal.returns-then-not-branch
returns-then-not-branch c programs held clear =
    let found : Bool → Option Value = λ put. if put then Some c.args.given else None in
    carried_stopped programs
    (charged (λ heap. put_charge heap c.args.object c.args.key.now c.args.given)
    (put_member c.args.object c.args.key.now c.args.given)) c.args.self.now c.put_property.new.self
    (found c.in_ok-put_property.field-0) held c.in_ok-put_property.ensures.put
    (ap found c.if-not-branch.true) c.put_property.ensures.stays

pub returns : goal.returns
returns c programs held clear =
    let found : Bool → Option Value = λ put. if put then Some c.args.given else None in
    carried_value programs
    (charged (λ heap. put_charge heap c.args.object c.args.key.now c.args.given)
    (put_member c.args.object c.args.key.now c.args.given)) c.args.self.now c.put_property.new.self
    (found c.in_ok-put_property.field-0) c.args.given held c.in_ok-put_property.ensures.put
    (ap found c.if-not-branch.false) c.put_property.ensures.stays c.requires.given clear
