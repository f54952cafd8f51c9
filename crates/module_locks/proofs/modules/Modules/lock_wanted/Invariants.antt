use Rattle.std.proofs.Common.{◌≡◌}
use Rattle.module_locks.specs.devices.Keeping.{with_store}
use Rattle.module_locks.proofs.ListLaws.{changed_front}
use Rattle.module_locks.proofs.modules.Modules.lock_wanted.Given as goal

abbrev pub invariant-locks : goal.invariant-locks
invariant-locks l = l.lock-items ≡ changed_front (with_store l.component l.«module») l.lock-index l.initial.lock-items
