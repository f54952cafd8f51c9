use Rattle.std.proofs.Common.{◌≡◌}
use Rattle.module_locks.specs.devices.Keeping.{told_with}
use Rattle.module_locks.proofs.ListLaws.{changed_front}
use Rattle.module_locks.proofs.modules.Modules.tell_locks.Given as goal

abbrev pub invariant-changes : goal.invariant-changes
invariant-changes l = l.change-items ≡ changed_front (told_with l.component l.self.locks) l.change-index l.initial.change-items
