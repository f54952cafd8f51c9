use Rattle.std.proofs.Common.{subst, sym}
use Rattle.std.proofs.lemmas.Result.{IfOk-weaker}
use Rattle.es_eval.specs.declared.works.TargetWork.{TargetWork}
use Rattle.es_eval.specs.devices.Machines.{GoesOn}
use Rattle.es_eval.specs.devices.Works.{target_row}
use Rattle.es_eval.proofs.TargetLemmas.{visited-run}
use Rattle.es_eval.proofs.machine.Machine.on_target.Goals as goal

pub returns-in-Visited-clause-run : goal.returns-in-Visited-clause-run
returns-in-Visited-clause-run c =
    let programs = c.args.programs.now in
    IfOk-weaker c.execute_then.result _ _
    (λ next run. subst (λ (item : TargetWork). GoesOn programs c.args.self.now
    (target_row programs item c.args.given) c.execute_then.new.self next) (sym c.in-Visited.is)
    (visited-run programs c.args.self.now c.execute_then.new.self c.in-Visited.visit next
    (run programs))) c.execute_then.ensures.run
