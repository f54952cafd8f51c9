use Rattle.std.proofs.lemmas.Result.{err_from_is_err_and}
use Rattle.nv_journal.proofs.Stepped.{fill-write_failed, fill-synced}
use Rattle.nv_journal.proofs.steps.write_area.Goals as goal

pub returns-in_err-write_at-clause-content : goal.returns-in_err-write_at-clause-content
returns-in_err-write_at-clause-content g c =
    let p = err_from_is_err_and c.from_residual.result c.from_residual.ensures.1 in
    let write = rw (c.place.ensures, c.number_and_area-bytes.ensures.bytes) at c.in_err-write_at.ensures.content in
    rw p.1 (fill-write_failed c.args.slot c.args.number c.args.area.now c.number_and_area-bytes.ensures.full _ _ _ _ c.requires.closed write)

pub returns-clause-content : goal.returns-clause-content
returns-clause-content g c =
    let write = rw (c.place.ensures, c.number_and_area-bytes.ensures.bytes) at c.in_ok-write_at.ensures.content in
    fill-synced c.args.slot c.args.number c.args.area.now c.number_and_area-bytes.ensures.full _ _ _ _ c.requires.closed c.requires.due write c.sync.ensures.content
