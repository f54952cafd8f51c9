use Rattle.std.proofs.lemmas.Result.{err_from_is_err_and}
use Rattle.nv_journal.proofs.Stepped.{open-write_failed, open-synced}
use Rattle.nv_journal.proofs.steps.open_gate.Goals as goal

pub returns-in_err-write_at-clause-content : goal.returns-in_err-write_at-clause-content
returns-in_err-write_at-clause-content g c =
    let p = err_from_is_err_and c.from_residual.result c.from_residual.ensures.1 in
    let write = rw c.place.ensures at c.in_err-write_at.ensures.content in
    rw p.1 (open-write_failed c.args.slot c.args.area.now _ _ _ _ c.requires.filled write)

pub returns-clause-content : goal.returns-clause-content
returns-clause-content g c =
    let write = rw c.place.ensures at c.in_ok-write_at.ensures.content in
    open-synced c.args.slot c.args.area.now _ _ _ _ c.requires.filled write c.sync.ensures.content
