use Rattle.std.proofs.Common.{arith}
use Rattle.std.proofs.lemmas.Result.{IfOk-weaker}
use Rattle.es_eval.specs.devices.Works.{executes}
use Rattle.es_eval.proofs.SettleLemmas.{settled, settled_less}
use Rattle.es_eval.proofs.machine.Machine.execute.Goals as goal

pub returns-clause-run : goal.returns-clause-run
returns-clause-run c =
    let programs = c.args.programs.now in
    IfOk-weaker c.settle_run.result _ _ (λ next settles.
    settled programs 0 (executes programs c.args.code) c.args.self.now c.run_statement.new.self
    c.settle_run.new.self c.in_ok-ran.ran c.run_statement.new.held next c.in_ok-ran.ensures
    (settles programs)) c.settle_run.ensures.run

pub returns-clause-less : goal.returns-clause-less
returns-clause-less c =
    let programs = c.args.programs.now in
    IfOk-weaker c.settle_run.result _ _ (λ next weighs.
    let less = settled_less programs 0 (executes programs c.args.code) c.args.self.now
    c.run_statement.new.self c.settle_run.new.self c.in_ok-ran.ran c.run_statement.new.held next
    c.in_ok-ran.ensures weighs in omega (arith, less)) c.settle_run.ensures.less
