use Rattle.std.proofs.lemmas.Result.{err_from_is_err_and}
use Rattle.nv_journal.proofs.Kept.{put-find_failed, put-through}
use Rattle.nv_journal.proofs.journals.store_known.Goals as goal

pub returns-in_err-known-clause-content : goal.returns-in_err-known-clause-content
returns-in_err-known-clause-content g c =
    let p = err_from_is_err_and c.from_residual.result c.from_residual.ensures.1 in
    rw p.1 (put-find_failed c.args.area.now _ _ _ _ c.in_err-known.ensures.content)

pub returns-clause-content : goal.returns-clause-content
returns-clause-content g c = put-through c.args.area.now _ _ _ _ _ c.in_ok-known.ensures.content c.store_area.ensures.content
