use Rattle.std.proofs.Common.{subst, sym}
use Rattle.std.specs.Result.{IfOk}
use Rattle.es_eval.specs.declared.works.OperandWork.{OperandWork}
use Rattle.es_eval.specs.devices.Machines.{GoesOn}
use Rattle.es_eval.specs.devices.Works.{as_value, operand_row}
use Rattle.es_eval.proofs.machine.Machine.on_operand.Goals as goal

pub returns-in-Comma-clause-run : goal.returns-in-Comma-clause-run
returns-in-Comma-clause-run c =
    subst (λ (item : OperandWork). IfOk c.evaluate_parts.result (λ next.
    GoesOn c.args.programs.now c.args.self.now
    (as_value (operand_row c.args.programs.now item c.args.given)) c.evaluate_parts.new.self next))
    (sym c.in-Comma.is) c.evaluate_parts.ensures.run
