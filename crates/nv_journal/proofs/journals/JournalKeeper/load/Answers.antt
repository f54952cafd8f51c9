use Rattle.std.proofs.Common.{ap}
use Rattle.nv_journal.specs.Journals.{JournalState}
use Rattle.nv_journal.proofs.Kept.{loads-kept}
use Rattle.nv_journal.proofs.Loaded.{load-through}
use Rattle.nv_journal.proofs.journals.JournalKeeper.load.Goals as goal

pub returns-clause-kept : goal.returns-clause-kept
returns-clause-kept g c =
    let disk = ap (λ (s : JournalState). s.disk.content) c.self.view_is in
    let older = ap (λ (s : JournalState). s.older.kept) c.self.view_is in
    rw (← disk, ← older) (loads-kept _ _ _ _ _ (load-through _ _ _ _ _ c.in_ok-found.ensures.content c.load_by-size.ensures.content) c.load_by-size.ensures.older)

pub returns-clause-moments : goal.returns-clause-moments
returns-clause-moments g c =
    let start = ap (λ (s : JournalState). s.disk.content) c.self.view_is in
    rw (← start) (load-through _ _ _ _ _ c.in_ok-found.ensures.content c.load_by-size.ensures.content)
