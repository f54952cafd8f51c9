use Rattle.std.proofs.Common.{subst, sym}
use Rattle.es_values.specs.declared.values.Value.{Value}
use Rattle.es_eval.specs.devices.Machines.{GoesOn}
use Rattle.es_eval.specs.Members.{delete_member}
use Rattle.es_eval.specs.devices.Works.{as_value}
use Rattle.es_eval.proofs.ArmLemmas.{deleted-run}
use Rattle.es_eval.proofs.machine.Machine.delete_member.Goals as goal

pub returns-in-Object-clause-run : goal.returns-in-Object-clause-run
returns-in-Object-clause-run c programs =
    subst (λ (base : Value). GoesOn programs c.args.self.now
    (as_value (delete_member base c.args.name.now)) c.delete.new.self c.value.result)
    (sym c.in-Object.is)
    (deleted-run programs c.args.self.now c.delete.new.self c.in-Object.object c.args.name.now c.delete.result
    c.value.result c.delete.ensures.delete c.delete.ensures.stays c.value.ensures)
