use Rattle.std.proofs.Common.{sym, subst}
use Rattle.std.proofs.lemmas.Result.{IfOk-weaker}
use Rattle.es_eval.specs.Actions.{behind}
use Rattle.es_eval.specs.devices.Machines.{GoesOn}
use Rattle.es_eval.specs.Rows.{place_row}
use Rattle.es_shapes.specs.Syntax.{Target}
use Rattle.es_eval.specs.devices.Works.{enters, use_row}
use Rattle.es_eval.proofs.ShapeRows.{target-other}
use Rattle.es_eval.proofs.machine.Machine.enter_shaped.Goals as goal

pub returns-in_default-clause-run : goal.returns-in_default-clause-run
returns-in_default-clause-run c =
    let programs = c.args.programs.now in
    IfOk-weaker c.on_no_target.result _ _
    (λ next run. subst (λ (t : Target). GoesOn programs c.args.self.now
    (behind (place_row (enters programs) t) (use_row programs c.args.purpose))
    c.on_no_target.new.self next)
    (sym (target-other programs c.args.code c.args.shape c.in_default.not-Name
    c.in_default.not-Index c.in_default.not-Member))
    run) c.on_no_target.ensures.run
