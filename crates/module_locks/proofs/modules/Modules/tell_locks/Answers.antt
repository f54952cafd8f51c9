use Rattle.std.proofs.Common.{◌≡◌, ◌∙◌, ◌<◌, Bool, false, None, length, get_or, map, ap, sym, arith}
use Rattle.std.proofs.lemmas.List.{get_or_default, with_items_is}
use Rattle.carousel_blocks.specs.declared.changes.Change.{Change}
use Rattle.module_locks.specs.devices.Keeping.{told_with}
use Rattle.module_locks.proofs.ListLaws.{all_changed, changed_more}
use Rattle.module_locks.proofs.modules.Modules.tell_locks.Goals as goal

abbrev no_change : Change
no_change = record { «module» = 0; status = None; line = None; locked = false }

pub changes-preserved : goal.changes-preserved
changes-preserved c =
    let old : Change = get_or c.changes.change-items c.changes.change-index no_change in
    let new : Change = record old { locked = c.is_filled_by-change.result } in
    let low : c.changes.change-index < length c.changes.change-items = omega arith in
    changed_more (told_with c.args.component c.args.self.now.locks) c.changes.change-index c.deref_mut-change-items.result.now c.changes.change-items old new (omega arith) c.changes.invariant
    (get_or_default c.changes.change-items c.changes.change-index no_change old low)
    (ap (λ (b : Bool). let told : Change = record old { locked = b } in told) c.is_filled_by-change.ensures)

pub returns : goal.returns
returns c =
    let long : length c.changes.change-items ≡ c.args.changes.now.len = c.changes.auto.change-items ∙ ap length c.deref_mut-change-items.ensures.value ∙ sym c.args.changes.now.ok.0 in
    let step = told_with c.args.component c.args.self.now.locks in
    with_items_is c.args.changes.now c.changes.change-items long ∙ c.changes.invariant ∙ all_changed step c.changes.change-index c.deref_mut-change-items.result.now (omega arith)
    ∙ ap (map step) c.deref_mut-change-items.ensures.value
