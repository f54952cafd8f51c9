use Rattle.std.proofs.Common.{subst, sym}
use Rattle.es_values.specs.declared.values.Value.{Value}
use Rattle.es_eval.specs.Actions.{as_text}
use Rattle.es_eval.specs.devices.Machines.{GoesOn}
use Rattle.es_eval.specs.Members.{delete_in, delete_index}
use Rattle.es_eval.specs.devices.Works.{as_value}
use Rattle.es_eval.proofs.ArmLemmas.{carried-run, deleted-run, stopped-run}
use Rattle.es_eval.proofs.machine.Machine.delete_index.Goals as goal

pub returns-in-Some-clause-run : goal.returns-in-Some-clause-run
returns-in-Some-clause-run c programs =
    subst (λ (base : Value). GoesOn programs c.args.self.now
    (as_value (delete_index base c.args.key.now)) c.delete.new.self c.value-in-Some.result)
    (sym c.in-Object.is)
    (carried-run programs c.args.self.now c.to_text.new.self c.delete.new.self
    (as_text c.args.key.now) (λ key. as_value (delete_in c.in-Object.object key)) c.in_ok-key.field-0
    c.in-Some.key c.value-in-Some.result c.in_ok-key.ensures.text c.in-Some.is
    c.to_text.ensures.stays
    (deleted-run programs c.to_text.new.self c.delete.new.self c.in-Object.object c.in-Some.key c.delete.result
    c.value-in-Some.result c.delete.ensures.delete c.delete.ensures.stays c.value-in-Some.ensures))

pub returns-in-None-clause-run : goal.returns-in-None-clause-run
returns-in-None-clause-run c programs =
    subst (λ (base : Value). GoesOn programs c.args.self.now
    (as_value (delete_index base c.args.key.now)) c.to_text.new.self c.stopped.result)
    (sym c.in-Object.is)
    (stopped-run programs c.args.self.now c.to_text.new.self (as_text c.args.key.now)
    (λ key. as_value (delete_in c.in-Object.object key)) c.in_ok-key.field-0 c.stopped.result
    c.in_ok-key.ensures.text c.in-None.is c.stopped.ensures)
