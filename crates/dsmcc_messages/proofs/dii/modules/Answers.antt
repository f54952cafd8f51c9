use Rattle.std.proofs.Common.{rules}
use Rattle.std.proofs.lemmas.Result.{err_from_is_err_and}
use Rattle.dsmcc_messages.specs.Reading.{modules_at}
use Rattle.dsmcc_messages.proofs.EntryLoop.{begins, ends, goes_on, is_done}
use Rattle.dsmcc_messages.proofs.dii.modules.Goals as goal

pub loop-init : goal.loop-init
loop-init c = rw c.new-entries.ensures.items (begins c.args.cursor.now c.in_ok-count.count c.u16.new.self (search rules))

pub returns-in_err-entry : goal.returns-in_err-entry
returns-in_err-entry c =
    let p = err_from_is_err_and c.from_residual-in_err-entry.result c.from_residual-in_err-entry.ensures.1 in
    rw (p.1, p.2) (ends c.in_err-entry.field-0.0 c.loop.entries.items c.in_ok-count.count c.loop.counter c.loop.cursor c.entry.new.cursor c.entry.new.cursor (modules_at c.args.cursor.now) c.loop-test.true c.in_err-entry.ensures c.loop.invariant)

pub loop-preserved : goal.loop-preserved
loop-preserved c =
    rw c.in_ok-push.ensures.items (goes_on c.loop.entries.items c.in_ok-count.count c.loop.counter c.loop.cursor c.in_ok-entry.entry c.entry.new.cursor (modules_at c.args.cursor.now) c.loop-test.true c.in_ok-entry.ensures c.loop.invariant)

pub returns : goal.returns
returns c = rw c.from.ensures (is_done c.loop.entries.items c.in_ok-count.count c.loop.counter c.loop.cursor (modules_at c.args.cursor.now) c.loop-test.false c.loop.invariant)
