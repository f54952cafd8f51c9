use Rattle.std.proofs.lemmas.Result.{IfOk-weaker}
use Rattle.es_shapes.specs.devices.Parts.{statements_from}
use Rattle.es_eval.specs.Rows.{statements}
use Rattle.es_eval.specs.devices.Works.{runs}
use Rattle.es_eval.proofs.SettleLemmas.{settled, settled_less}
use Rattle.es_eval.proofs.machine.Machine.run_listed.Goals as goal

pub returns-clause-run : goal.returns-clause-run
returns-clause-run c =
    let programs = c.args.programs.now in
    IfOk-weaker c.settle_run.result _ _ (λ next settles.
    settled programs 12 (statements (runs programs) (statements_from programs c.args.listing c.args.place))
    c.args.self.now c.run_row.new.self c.settle_run.new.self c.in_ok-ran.ran c.run_row.new.held next
    c.in_ok-ran.ensures (settles programs)) c.settle_run.ensures.run

pub returns-clause-less : goal.returns-clause-less
returns-clause-less c =
    let programs = c.args.programs.now in
    IfOk-weaker c.settle_run.result _ _ (λ next weighs.
    settled_less programs 12 (statements (runs programs) (statements_from programs c.args.listing c.args.place))
    c.args.self.now c.run_row.new.self c.settle_run.new.self c.in_ok-ran.ran c.run_row.new.held next
    c.in_ok-ran.ensures weighs) c.settle_run.ensures.less
