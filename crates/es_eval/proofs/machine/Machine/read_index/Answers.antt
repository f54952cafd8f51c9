use Rattle.std.proofs.Common.{◌∙◌, subst, sym}
use Rattle.std.proofs.lemmas.Result.{IfOk-weaker}
use Rattle.es_values.specs.declared.values.Value.{Value}
use Rattle.es_eval.specs.Actions.{Action, as_text, behind}
use Rattle.es_eval.specs.devices.Machines.{GoesOn}
use Rattle.es_eval.specs.Members.{read_member}
use Rattle.es_eval.specs.devices.Works.{as_value}
use Rattle.es_eval.proofs.ArmLemmas.{carried-run, members-more, stopped-run}
use Rattle.es_eval.proofs.machine.Machine.read_index.Goals as goal

pub returns-in-Some-clause-run : goal.returns-in-Some-clause-run
returns-in-Some-clause-run c =
    IfOk-weaker c.read_member.result _ _
    (λ next run programs. subst (λ (action : Action Value). GoesOn programs c.args.self.now
    (as_value action) c.read_member.new.self next)
    (sym (members-more c.args.base
    (behind (as_text c.args.key.now) (λ key. read_member c.args.base key))
    (sym c.has_no_members.ensures ∙ c.if-has_no_members.false)))
    (carried-run programs c.args.self.now c.to_text.new.self c.read_member.new.self
    (as_text c.args.key.now) (λ key. as_value (read_member c.args.base key)) c.in_ok-key.field-0
    c.in-Some.key next c.in_ok-key.ensures.text c.in-Some.is c.to_text.ensures.stays
    (run programs))) c.read_member.ensures.run

pub returns-in-None-clause-run : goal.returns-in-None-clause-run
returns-in-None-clause-run c programs =
    subst (λ (action : Action Value). GoesOn programs c.args.self.now (as_value action)
    c.to_text.new.self c.stopped-in-None.result)
    (sym (members-more c.args.base
    (behind (as_text c.args.key.now) (λ key. read_member c.args.base key))
    (sym c.has_no_members.ensures ∙ c.if-has_no_members.false)))
    (stopped-run programs c.args.self.now c.to_text.new.self (as_text c.args.key.now)
    (λ key. as_value (read_member c.args.base key)) c.in_ok-key.field-0 c.stopped-in-None.result
    c.in_ok-key.ensures.text c.in-None.is c.stopped-in-None.ensures)
