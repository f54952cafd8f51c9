use Rattle.std.proofs.Common.{◌≡◌, ◌∙◌, Bool, subst, sym, true}
use Rattle.std.specs.Prelude.{if◌then◌else◌}
use Rattle.std.proofs.lemmas.Result.{IfOk-weaker}
use Rattle.es_values.specs.Values.{truth_of}
use Rattle.es_eval.specs.Actions.{gives}
use Rattle.es_eval.specs.Rows.Completion.{Normal}
use Rattle.es_eval.specs.devices.Machines.{GoesOn}
use Rattle.es_eval.specs.devices.Works.{as_completion, loop_body}
use Rattle.es_eval.proofs.SettleLemmas.{settled, settled_less}
use Rattle.es_eval.proofs.machine.Machine.tested.Goals as goal

pub returns-clause-run : goal.returns-clause-run
returns-clause-run c =
    let programs = c.args.programs.now in
    let body = loop_body programs c.args.given_loop in
    let is : true ≡ truth_of c.args.given.now = sym c.if-not-truth.false ∙ c.truth.ensures in
    IfOk-weaker c.settle_run.result _ _ (λ next settles.
    subst (λ (b : Bool). GoesOn programs c.args.self.now
    (as_completion (if b then body else gives Normal)) c.settle_run.new.self next) is
    (settled programs 12 body c.args.self.now c.body_on.new.self c.settle_run.new.self
    c.in_ok-ran.ran c.body_on.new.held next c.in_ok-ran.ensures (settles programs)))
    c.settle_run.ensures.run

pub returns-clause-less : goal.returns-clause-less
returns-clause-less c =
    let programs = c.args.programs.now in
    IfOk-weaker c.settle_run.result _ _ (λ next weighs.
    settled_less programs 12 (loop_body programs c.args.given_loop) c.args.self.now
    c.body_on.new.self c.settle_run.new.self c.in_ok-ran.ran c.body_on.new.held next
    c.in_ok-ran.ensures weighs) c.settle_run.ensures.less
