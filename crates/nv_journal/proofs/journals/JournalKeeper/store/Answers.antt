use Rattle.std.proofs.Common.{ap}
use Rattle.std.proofs.lemmas.Result.{err_from_is_err_and}
use Rattle.nv_journal.specs.Journals.{JournalState}
use Rattle.nv_journal.proofs.Kept.{put-failed, put-done}
use Rattle.nv_journal.proofs.journals.JournalKeeper.store.Goals as goal

pub returns-in_err-next-clause-moments : goal.returns-in_err-next-clause-moments
returns-in_err-next-clause-moments g c =
    let p = err_from_is_err_and c.from_residual.result c.from_residual.ensures.1 in
    let start = ap (λ (s : JournalState). s.disk.content) c.self.view_is in
    rw (p.1, ← start) (put-failed c.args.from.now _ _ _ _ c.in_err-next.ensures.content)

pub returns-clause-moments : goal.returns-clause-moments
returns-clause-moments g c =
    let start = ap (λ (s : JournalState). s.disk.content) c.self.view_is in
    rw (← start) (put-done c.args.from.now _ _ _ c.in_ok-next.ensures.content)
