use Rattle.std.proofs.lemmas.Result.{err_from_is_err_and}
use Rattle.nv_journal.proofs.Stored.{find-first_failed, find-second_failed, find-done}
use Rattle.nv_journal.proofs.stores.find_slots.Goals as goal

pub returns-in_err-first-clause-content : goal.returns-in_err-first-clause-content
returns-in_err-first-clause-content g c =
    let p = err_from_is_err_and c.from_residual-in_err-first.result c.from_residual-in_err-first.ensures.1 in
    rw p.1 (find-first_failed _ _ _ _ _ c.in_ok-sync.ensures.content c.in_err-first.ensures.content)

pub returns-in_err-second-clause-content : goal.returns-in_err-second-clause-content
returns-in_err-second-clause-content g c =
    let p = err_from_is_err_and c.from_residual-in_err-second.result c.from_residual-in_err-second.ensures.1 in
    rw p.1 (find-second_failed _ _ _ _ _ _ _ c.in_ok-sync.ensures.content c.in_ok-first.ensures.content c.in_err-second.ensures.content)

pub returns-clause-content : goal.returns-clause-content
returns-clause-content g c = find-done _ _ _ _ _ _ _ c.newest_of.ensures c.in_ok-sync.ensures.content c.in_ok-first.ensures.content c.in_ok-second.ensures.content
