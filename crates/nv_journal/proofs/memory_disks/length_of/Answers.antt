use Rattle.std.proofs.Common.{length}
use Rattle.nv_journal.proofs.Marked.{furthest-least}
use Rattle.nv_journal.proofs.memory_disks.length_of.Goals as goal

pub returns-then-pick-eq1-clause-most : goal.returns-then-pick-eq1-clause-most
returns-then-pick-eq1-clause-most c = furthest-least (length c.args.settled.now) c.args.written.now
