use Rattle.std.proofs.lemmas.Result.{err_from_is_err_and}
use Rattle.nv_journal.proofs.Stored.{ready, filled-due, store-close_failed, store-fill_failed, store-open_failed, store-done}
use Rattle.nv_journal.proofs.stores.store_area.Goals as goal

pub close_gate-requires : goal.close_gate-requires
close_gate-requires g c = rw c.next_slot-slot.ensures (record { ready = ready c.args.found _ c.requires.due })

pub returns-in_err-close_gate-clause-content : goal.returns-in_err-close_gate-clause-content
returns-in_err-close_gate-clause-content g c =
    let p = err_from_is_err_and c.from_residual.result c.from_residual.ensures.1 in
    let closes = rw c.next_slot-slot.ensures at c.in_err-close_gate.ensures.content in
    rw p.1 (store-close_failed c.args.found c.args.area.now _ _ _ _ c.requires.due closes)

pub write_area-requires : goal.write_area-requires
write_area-requires g c =
    let closes = rw c.next_slot-slot.ensures at c.in_ok-close_gate.ensures.content in
    let both = filled-due c.args.found c.args.area.now _ _ c.requires.due closes in
    rw c.next_slot-slot.ensures (record { closed = both.0; due = both.1 })

pub returns-in_err-write_area-clause-content : goal.returns-in_err-write_area-clause-content
returns-in_err-write_area-clause-content g c =
    let p = err_from_is_err_and c.from_residual-in_err-write_area.result c.from_residual-in_err-write_area.ensures.1 in
    let closes = rw c.next_slot-slot.ensures at c.in_ok-close_gate.ensures.content in
    let fills = rw c.next_slot-slot.ensures at c.in_err-write_area.ensures.content in
    rw p.1 (store-fill_failed c.args.found c.args.area.now _ _ _ _ _ c.requires.due closes fills)

pub returns-in_err-open_gate-clause-content : goal.returns-in_err-open_gate-clause-content
returns-in_err-open_gate-clause-content g c =
    let p = err_from_is_err_and c.from_residual-in_err-open_gate.result c.from_residual-in_err-open_gate.ensures.1 in
    let closes = rw c.next_slot-slot.ensures at c.in_ok-close_gate.ensures.content in
    let fills = rw c.next_slot-slot.ensures at c.in_ok-write_area.ensures.content in
    let opens = rw c.next_slot-slot.ensures at c.in_err-open_gate.ensures.content in
    rw p.1 (store-open_failed c.args.found c.args.area.now _ _ _ _ _ _ c.requires.due closes fills opens)

pub returns-clause-content : goal.returns-clause-content
returns-clause-content g c =
    let closes = rw c.next_slot-slot.ensures at c.in_ok-close_gate.ensures.content in
    let fills = rw c.next_slot-slot.ensures at c.in_ok-write_area.ensures.content in
    let opens = rw c.next_slot-slot.ensures at c.in_ok-open_gate.ensures.content in
    rw (c.next_slot-slot.ensures, c.next_number.ensures) (store-done c.args.found c.args.area.now _ _ _ _ c.requires.due closes fills opens)
