use Rattle.std.proofs.Common.{◌∙◌, ap, arith}
use Rattle.std.proofs.lemmas.Result.{IfOk-weaker}
use Rattle.es_eval.specs.devices.Machines.{rest}
use Rattle.es_eval.specs.devices.Works.{as_completion, declares}
use Rattle.es_eval.specs.Worlds.{World}
use Rattle.es_eval.proofs.SettleLemmas.{settled, settled_less}
use Rattle.es_eval.proofs.machine.Machine.declare_value.Goals as goal

pub returns-clause-run : goal.returns-clause-run
returns-clause-run c =
    let programs = c.args.programs.now in
    let more = declares programs c.args.code c.args.next in
    IfOk-weaker c.settle_run.result _ _ (λ next settles.
    settled programs 12 more c.write_name.new.self c.run_var.new.self c.settle_run.new.self
    c.in_ok-ran.ran c.run_var.new.held next c.in_ok-ran.ensures (settles programs)
    ∙ ap (λ (w : World). as_completion more w (rest programs c.write_name.new.self.frames))
    c.in_ok-write_name.ensures.name
    ∙ ap (as_completion more _) (c.in_ok-write_name.ensures.stays.rest programs))
    c.settle_run.ensures.run

pub returns-clause-less : goal.returns-clause-less
returns-clause-less c =
    let programs = c.args.programs.now in
    let stays = c.in_ok-write_name.ensures.stays.less in
    IfOk-weaker c.settle_run.result _ _ (λ next weighs.
    let less = settled_less programs 12 (declares programs c.args.code c.args.next)
    c.write_name.new.self c.run_var.new.self c.settle_run.new.self c.in_ok-ran.ran
    c.run_var.new.held next c.in_ok-ran.ensures weighs in omega (arith, less, stays))
    c.settle_run.ensures.less
