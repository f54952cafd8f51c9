use Rattle.std.proofs.Common.{◌∙◌, subst, sym}
use Rattle.std.proofs.lemmas.Result.{IfOk-weaker}
use Rattle.es_values.specs.declared.values.Value.{Value}
use Rattle.es_eval.specs.declared.held.Reached.TheVariants.{Stopped}
use Rattle.es_eval.specs.declared.outcomes.StopCause.TheVariants.{Budget}
use Rattle.es_eval.specs.Actions.{Action, as_text, behind}
use Rattle.es_eval.specs.Members.{read_member}
use Rattle.es_eval.specs.devices.Held.{ReachesBehind}
use Rattle.es_eval.proofs.ArmLemmas.{members-more}
use Rattle.es_eval.proofs.ReachLemmas.{charged_on, charged_stopped}
use Rattle.es_eval.proofs.machine.Machine.reach_index.Goals as goal

pub returns-in-Some : goal.returns-in-Some
returns-in-Some c =
    IfOk-weaker c.reach_member.result _ _
    (λ reached reaches programs. subst (λ (action : Action Value). ReachesBehind programs action
    c.args.self.now c.reach_member.new.self reached c.reach_member.new.held)
    (sym (members-more c.args.base
    (behind (as_text c.args.key.now) (λ key. read_member c.args.base key))
    (sym c.has_no_members.ensures ∙ c.if-has_no_members.false)))
    (charged_on programs (as_text c.args.key.now) (λ key. read_member c.args.base key)
    c.args.self.now c.to_text.new.self c.reach_member.new.self c.in_ok-key.field-0 c.in-Some.key
    reached c.reach_member.new.held c.in_ok-key.ensures.text c.in-Some.is
    c.to_text.ensures.stays (reaches programs))) c.reach_member.ensures

pub returns-in-None : goal.returns-in-None
returns-in-None c programs =
    subst (λ (action : Action Value). ReachesBehind programs action
    c.args.self.now c.to_text.new.self (Stopped Budget) c.args.held.now)
    (sym (members-more c.args.base
    (behind (as_text c.args.key.now) (λ key. read_member c.args.base key))
    (sym c.has_no_members.ensures ∙ c.if-has_no_members.false)))
    (charged_stopped programs (as_text c.args.key.now) (λ key. read_member c.args.base key)
    c.args.self.now c.to_text.new.self c.in_ok-key.field-0 c.args.held.now
    c.in_ok-key.ensures.text c.in-None.is c.to_text.ensures.stays)
