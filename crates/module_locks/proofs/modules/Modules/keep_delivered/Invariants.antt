use Rattle.std.proofs.Common.{◌≡◌}
use Rattle.module_locks.specs.devices.Keeping.{with_delivery}
use Rattle.module_locks.proofs.ListLaws.{changed_front}
use Rattle.module_locks.proofs.modules.Modules.keep_delivered.Given as goal

abbrev pub invariant-locks : goal.invariant-locks
invariant-locks l = l.lock-items ≡ changed_front (with_delivery l.component l.changes) l.lock-index l.initial.lock-items
