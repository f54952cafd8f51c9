use Rattle.std.proofs.Common.{◌∙◌}
use Rattle.std.specs.Prelude.{Result, Ok, Err, OnOk}
use Rattle.std.proofs.lemmas.Result.{IfOk-weaker}
use Rattle.es_eval.proofs.AppliedLemmas.{made-run, waits-live, waits-run}
use Rattle.es_eval.proofs.RanLemmas.{both_ok}
use Rattle.es_eval.proofs.machine.Machine.go_on.Goals as goal

pub put_held-requires-clause-items : goal.put_held-requires-clause-items
put_held-requires-clause-items c =
    waits-live c.args.programs.now c.list.result.now c.args.self.now c.gather.new.self
    c.gather.new.self c.args.opened c.gather.new.opened c.in_ok-gather.field-0 c.gather.new.held
    c.list.ensures c.in_ok-gather.ensures.gathers c.hold.new.self c.in-Waits.is
    c.in_ok-hold-in-Waits.ensures.items c.gather.ensures.callee c.requires.callee

pub returns-in-All-clause-run : goal.returns-in-All-clause-run
returns-in-All-clause-run c =
    IfOk-weaker c.call_callee.result _ _ (λ next on.
    made-run c.args.programs.now c.list.result.now c.args.self.now c.gather.new.self
    c.call_callee.new.self c.args.opened c.gather.new.opened c.in_ok-gather.field-0
    c.gather.new.held c.list.ensures c.in_ok-gather.ensures.gathers next c.in-All.is
    c.gather.ensures.callee on) c.call_callee.ensures.run

pub returns-in_ok-hold-in-Waits-clause-run : goal.returns-in_ok-hold-in-Waits-clause-run
returns-in_ok-hold-in-Waits-clause-run c =
    let programs = c.args.programs.now in
    both_ok c.put_held.result _ _ _ (λ next comes tells.
    waits-run programs c.list.result.now c.args.self.now c.gather.new.self c.put_held.new.self
    c.args.opened c.gather.new.opened c.in_ok-gather.field-0 c.gather.new.held c.list.ensures
    c.in_ok-gather.ensures.gathers c.hold.new.self c.in-Waits.is
    c.in_ok-hold-in-Waits.ensures.items next (comes ∙ c.in_ok-hold-in-Waits.ensures.next)
    (tells.0 programs) (tells.1 programs)) c.put_held.ensures.next
    (both c.put_held.result _ _ c.put_held.ensures.rest c.put_held.ensures.world)
  where
    both : {T E : Type 0} (result : Result T E) (A B : Type 0) → OnOk result A → OnOk result B
        → OnOk result (A × B)
    both (Ok found) A B a b = (a, b)
    both (Err none) A B a b = tt
