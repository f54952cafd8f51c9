use Rattle.std.proofs.Common.{rules}
use Rattle.std.proofs.lemmas.Result.{IfOk-weaker}
use Rattle.es_eval.proofs.machine.Machine.reach_write.Goals.{in-Undefined, in-Object, in-Host, in-Bool}
use Rattle.es_eval.proofs.machine.Machine.reach_write.Goals as goal

pub returns : goal.returns
returns c =
    elim c.match-base.branch [
      | in-Undefined w ↦ search rules
      | in-Object w ↦ rw (w.result-is, w.self-is, w.held-is, w.in-Object.is)
          (IfOk-weaker w.reach_put.result _ _
          (λ reached reaches programs. reaches programs c.args.held.now c.requires.held)
          w.reach_put.ensures)
      | in-Host w ↦ rw (w.result-is, w.self-is, w.held-is, w.in-Host.is) w.reach_host.ensures
      | in-Bool w ↦ search rules
    ]
