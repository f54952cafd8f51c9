use Rattle.std.proofs.Common.{◌≡◌, ◌∙◌, length, map, ap, sym, arith}
use Rattle.std.proofs.lemmas.List.{with_items_is}
use Rattle.module_locks.specs.Standing.{ModulesState}
use Rattle.module_locks.specs.devices.Keeping.{with_delivery}
use Rattle.module_locks.proofs.ListLaws.{all_changed, changed_more}
use Rattle.module_locks.proofs.modules.Modules.keep_delivered.Goals as goal

pub locks-preserved : goal.locks-preserved
locks-preserved c =
    changed_more (with_delivery c.args.component c.args.changes.now) c.locks.lock-index c.deref_mut-lock-items.result.now c.locks.lock-items
    c.lock-item.result c.take_delivery.new.self (omega arith) c.locks.invariant c.lock-item.is (c.take_delivery.ensures ∙ sym (ap (with_delivery c.args.component c.args.changes.now) c.lock-item.is))

pub returns-clause-locks : goal.returns-clause-locks
returns-clause-locks c =
    let long : length c.locks.lock-items ≡ c.self.inside.locks.len = c.locks.auto.lock-items ∙ ap length c.deref_mut-lock-items.ensures.value ∙ sym c.self.inside.locks.ok.0 in
    let step = with_delivery c.args.component c.args.changes.now in
    with_items_is c.self.inside.locks c.locks.lock-items long ∙ c.locks.invariant ∙ all_changed step c.locks.lock-index c.deref_mut-lock-items.result.now (omega arith)
    ∙ ap (map step) c.deref_mut-lock-items.ensures.value ∙ ap (λ (s : ModulesState). map step s.locks) c.self.view_is
