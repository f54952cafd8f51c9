use Rattle.module_locks.proofs.CopyLaws.{Copies}
use Rattle.module_locks.proofs.modules.Modules.copy_kept.Given as goal

abbrev pub invariant-locks : goal.invariant-locks
invariant-locks l = Copies l.fn.self.store l.initial.lock-items l.lock-items l.lock-index
