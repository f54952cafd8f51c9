use Rattle.std.specs.Prelude.{OnOk, Result, Ok, Err}
use Rattle.std.proofs.Common.{◌∙◌, refl}
use Rattle.std.proofs.lemmas.Result.{IfOk-weaker}
use Rattle.es_eval.specs.declared.works.OperandWork.TheVariants.{Right}
use Rattle.es_eval.specs.declared.works.Work.TheVariants.{Operand}
use Rattle.es_eval.specs.Operations.{operates}
use Rattle.es_eval.specs.devices.Works.{evaluates}
use Rattle.es_eval.proofs.RanLemmas.{both_ok}
use Rattle.es_eval.proofs.SettleLemmas.{stop_goes, value_goes, wait_goes}
use Rattle.es_eval.proofs.machine.Machine.operate_right.Goals as goal

pub returns-in-Value-clause-run : goal.returns-in-Value-clause-run
returns-in-Value-clause-run c =
    let programs = c.args.programs.now in
    IfOk-weaker c.operates.result _ _ (λ next on.
    value_goes programs (evaluates programs c.args.right) (operates c.args.operator c.args.left)
    c.args.self.now c.reach.new.self c.operates.new.self c.in_ok-given.field-0 c.reach.new.held next
    c.in_ok-given.ensures c.in-Value.given c.in-Value.is (on programs)) c.operates.ensures.run

pub returns-in-Stopped-clause-run : goal.returns-in-Stopped-clause-run
returns-in-Stopped-clause-run c =
    let programs = c.args.programs.now in
    stop_goes programs (evaluates programs c.args.right) (operates c.args.operator c.args.left)
    c.args.self.now c.reach.new.self c.reach.new.self c.in_ok-given.field-0 c.reach.new.held
    c.stopped.result c.in_ok-given.ensures c.in-Stopped.cause c.in-Stopped.is c.stopped.ensures

pub returns-in_ok-hold-in-Waits-clause-run : goal.returns-in_ok-hold-in-Waits-clause-run
returns-in_ok-hold-in-Waits-clause-run c =
    let programs = c.args.programs.now in
    both_ok c.put_held.result _ _ _ (λ next comes tells.
    wait_goes programs (evaluates programs c.args.right) (operates c.args.operator c.args.left)
    c.args.self.now c.reach.new.self c.put_held.new.self c.in_ok-given.field-0 c.reach.new.held next
    c.in_ok-given.ensures c.hold.new.self (Operand (Right c.args.operator c.args.left)) c.in-Waits.is
    c.in_ok-hold-in-Waits.ensures.items (λ value. refl)
    (comes ∙ c.in_ok-hold-in-Waits.ensures.next) (tells.0 programs) (tells.1 programs))
    c.put_held.ensures.next
    (both c.put_held.result _ _ c.put_held.ensures.rest c.put_held.ensures.world)
  where
    both : {T E : Type 0} (result : Result T E) (A B : Type 0) → OnOk result A → OnOk result B
        → OnOk result (A × B)
    both (Ok found) A B a b = (a, b)
    both (Err none) A B a b = tt
