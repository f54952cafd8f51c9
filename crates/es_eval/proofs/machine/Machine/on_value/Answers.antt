use Rattle.std.proofs.Common.{subst}
use Rattle.es_eval.specs.declared.works.Work.{Work}
use Rattle.es_eval.specs.devices.Machines.{IsWorkLive}
use Rattle.es_eval.proofs.machine.Machine.on_value.Goals as goal

pub on_target-requires-clause-item : goal.on_target-requires-clause-item
on_target-requires-clause-item c =
    subst (λ (item : Work). IsWorkLive c.args.self.now.heap item) c.in-Target.is c.requires.item
