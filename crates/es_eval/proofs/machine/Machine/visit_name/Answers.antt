use Rattle.std.proofs.Common.{◌∙◌, sym}
use Rattle.std.proofs.lemmas.Result.{IfOk-weaker}
use Rattle.es_eval.specs.declared.works.Use.TheVariants.{Visit as VisitUse}
use Rattle.es_eval.specs.Members.Place.{NamePlace}
use Rattle.es_eval.specs.devices.Works.{use_row}
use Rattle.es_eval.proofs.ArmLemmas.{stepped-run, unstepped-run}
use Rattle.es_eval.proofs.StatementArms.{visit-target, visit-var}
use Rattle.es_eval.proofs.machine.Machine.visit_name.Goals as goal

pub returns-then-not-take_step-clause-run : goal.returns-then-not-take_step-clause-run
returns-then-not-take_step-clause-run c =
    let more = use_row c.args.programs.now (VisitUse c.args.name c.args.visit) in
    visit-var c.args.programs.now c.args.self.now c.take_step.new.self c.args.visit.visitor
    c.in-VisitVar.local c.in-VisitVar.code more c.stopped.result (sym c.in_ok-target.ensures ∙ c.in-VisitVar.is)
    (unstepped-run c.args.programs.now c.args.self.now c.take_step.new.self c.take_step.result
    (more (NamePlace c.in-VisitVar.local)) c.stopped.result c.take_step.ensures.step
    c.if-not-take_step.true c.stopped.ensures)

pub returns-in-VisitTarget-clause-run : goal.returns-in-VisitTarget-clause-run
returns-in-VisitTarget-clause-run c =
    let more = use_row c.args.programs.now (VisitUse c.args.name c.args.visit) in
    IfOk-weaker c.enter_target.result _ _ (λ next on.
    visit-target c.args.programs.now c.args.self.now c.enter_target.new.self c.args.visit.visitor
    c.in-VisitTarget.target more next (sym c.in_ok-target.ensures ∙ c.in-VisitTarget.is) on)
    c.enter_target.ensures.run

pub returns-else-not-take_step-clause-run : goal.returns-else-not-take_step-clause-run
returns-else-not-take_step-clause-run c =
    let more = use_row c.args.programs.now (VisitUse c.args.name c.args.visit) in
    IfOk-weaker c.on_place.result _ _ (λ next on.
    visit-var c.args.programs.now c.args.self.now c.on_place.new.self c.args.visit.visitor
    c.in-VisitVar.local c.in-VisitVar.code more next (sym c.in_ok-target.ensures ∙ c.in-VisitVar.is)
    (stepped-run c.args.programs.now c.args.self.now c.take_step.new.self c.on_place.new.self
    c.take_step.result (more (NamePlace c.in-VisitVar.local)) next c.take_step.ensures.step
    c.if-not-take_step.false c.take_step.ensures.stays on))
    c.on_place.ensures.run
