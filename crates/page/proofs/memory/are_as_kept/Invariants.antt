use Rattle.std.proofs.Common.{◌≡◌, true, take}
use Rattle.std.specs.List.{list_all}
use Rattle.module_locks.specs.Locks.{Modules}
use Rattle.module_locks.specs.Standing.{StandsFor}
use Rattle.page.specs.devices.Memories.{is_as_kept}
use Rattle.page.proofs.memory.are_as_kept.Given as goal

abbrev pub invariant-needs : goal.invariant-needs
invariant-needs l = (modules : Modules) → StandsFor l.modules modules → list_all (is_as_kept modules) (take l.need-index l.needs) ≡ true
