use Rattle.std.proofs.Common.{ap, subst, sym}
use Rattle.std.proofs.lemmas.Result.{IfOk-weaker}
use Rattle.es_eval.specs.devices.Machines.{GoesOn, run_from}
use Rattle.es_eval.specs.Rows.{last_value}
use Rattle.es_shapes.specs.Syntax.{Expressions}
use Rattle.es_eval.specs.devices.Works.{as_value, enters}
use Rattle.es_eval.proofs.ShapeRows.{parts-more, parts-none}
use Rattle.es_eval.proofs.machine.Machine.evaluate_parts.Goals as goal

pub returns-in-Some-clause-run : goal.returns-in-Some-clause-run
returns-in-Some-clause-run c =
    let programs = c.args.programs.now in
    IfOk-weaker c.evaluate_then.result _ _
    (λ next run. subst (λ (parts : Expressions). GoesOn programs c.args.self.now
    (as_value (last_value (enters programs) c.args.before parts)) c.evaluate_then.new.self next)
    (sym (parts-more programs c.args.code c.args.next c.part.result c.in-Some.part
    c.part.ensures.part c.in-Some.is)) (run programs)) c.evaluate_then.ensures.run

pub returns-in-None-clause-run : goal.returns-in-None-clause-run
returns-in-None-clause-run c =
    let programs = c.args.programs.now in
    subst (λ (parts : Expressions). GoesOn programs c.args.self.now
    (as_value (last_value (enters programs) c.args.before parts)) c.args.self.now c.value.result)
    (sym (parts-none programs c.args.code c.args.next c.part.result c.part.ensures.part
    c.in-None.is)) (ap (run_from programs c.args.self.now) c.value.ensures)
