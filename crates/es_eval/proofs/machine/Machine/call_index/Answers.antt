use Rattle.std.proofs.Common.{[], ◌∙◌, sym, subst}
use Rattle.std.proofs.lemmas.Result.{IfOk-weaker}
use Rattle.es_eval.specs.declared.works.Callee.TheVariants.{Member}
use Rattle.es_eval.specs.Actions.{as_text}
use Rattle.es_eval.specs.devices.Machines.{GoesOn}
use Rattle.es_eval.specs.devices.Works.{as_value, calls_with}
use Rattle.es_eval.proofs.ArmLemmas.{carried-run, members-more, stopped-run}
use Rattle.es_eval.proofs.machine.Machine.call_index.Goals as goal

pub returns-in-Some-clause-run : goal.returns-in-Some-clause-run
returns-in-Some-clause-run c =
    let programs = c.args.programs.now in
    IfOk-weaker c.open_call.result _ _ (λ next on.
    subst (λ action. GoesOn programs c.args.self.now (as_value action) c.open_call.new.self next)
    (sym (members-more c.args.base _ (sym c.has_no_members.ensures ∙ c.if-has_no_members.false)))
    (carried-run programs c.args.self.now c.to_text.new.self c.open_call.new.self
    (as_text c.args.key.now)
    (λ key. as_value (calls_with programs (Member c.args.base key) [] c.args.call 1))
    c.in_ok-key.field-0 c.in-Some.key next c.in_ok-key.ensures.text c.in-Some.is
    c.to_text.ensures.stays on)) c.open_call.ensures.run

pub returns-in-None-clause-run : goal.returns-in-None-clause-run
returns-in-None-clause-run c =
    let programs = c.args.programs.now in
    subst (λ action. GoesOn programs c.args.self.now (as_value action) c.to_text.new.self c.stopped-in-None.result)
    (sym (members-more c.args.base _ (sym c.has_no_members.ensures ∙ c.if-has_no_members.false)))
    (stopped-run programs c.args.self.now c.to_text.new.self (as_text c.args.key.now)
    (λ key. as_value (calls_with programs (Member c.args.base key) [] c.args.call 1))
    c.in_ok-key.field-0 c.stopped-in-None.result c.in_ok-key.ensures.text c.in-None.is c.stopped-in-None.ensures)
