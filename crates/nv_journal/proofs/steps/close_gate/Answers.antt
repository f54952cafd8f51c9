use Rattle.std.proofs.lemmas.Result.{err_from_is_err_and}
use Rattle.nv_journal.proofs.Stepped.{close-look_failed, close-left, close-write_failed, close-synced}
use Rattle.nv_journal.proofs.steps.close_gate.Goals as goal

pub returns-in_err-is_shut-clause-content : goal.returns-in_err-is_shut-clause-content
returns-in_err-is_shut-clause-content g c =
    let p = err_from_is_err_and c.from_residual.result c.from_residual.ensures.1 in
    let look = rw c.place-place.ensures at c.in_err-is_shut.ensures.content in
    rw p.1 (close-look_failed c.args.slot _ _ _ _ c.requires.ready look)

pub returns-then-is_shut-clause-content : goal.returns-then-is_shut-clause-content
returns-then-is_shut-clause-content g c =
    let look = rw (c.place-place.ensures, c.if-is_shut.true) at c.in_ok-is_shut.ensures.content in
    close-left c.args.slot _ _ c.requires.ready look

pub returns-in_err-write_at-clause-content : goal.returns-in_err-write_at-clause-content
returns-in_err-write_at-clause-content g c =
    let p = err_from_is_err_and c.from_residual-in_err-write_at.result c.from_residual-in_err-write_at.ensures.1 in
    let look = rw (c.place-place.ensures, c.if-is_shut.false) at c.in_ok-is_shut.ensures.content in
    let write = rw c.place-place.ensures at c.in_err-write_at.ensures.content in
    rw p.1 (close-write_failed c.args.slot _ _ _ _ _ c.requires.ready look write)

pub returns-clause-content : goal.returns-clause-content
returns-clause-content g c =
    let look = rw (c.place-place.ensures, c.if-is_shut.false) at c.in_ok-is_shut.ensures.content in
    let write = rw c.place-place.ensures at c.in_ok-write_at.ensures.content in
    close-synced c.args.slot _ _ _ _ _ c.requires.ready look write c.sync.ensures.content
