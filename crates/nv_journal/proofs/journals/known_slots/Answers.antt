use Rattle.nv_journal.proofs.Kept.{known}
use Rattle.nv_journal.proofs.journals.known_slots.Goals as goal

pub returns-in-Some-clause-content : goal.returns-in-Some-clause-content
returns-in-Some-clause-content g c = let due = rw c.in-Some.is at c.requires.known in known _ _ due
