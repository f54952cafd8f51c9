use Rattle.std.proofs.Common.{◌≡◌, take}
use Rattle.std.specs.Prelude.{All, map}
use Rattle.module_locks.specs.Locks.{Modules}
use Rattle.module_locks.specs.Standing.{StandsFor}
use Rattle.page.specs.devices.Memories.{FitsModule, numbered}
use Rattle.page.proofs.memory.numbered.Given as goal

abbrev pub invariant-needs : goal.invariant-needs
invariant-needs l = record {
  numbers : (modules : Modules) → StandsFor l.modules modules → l.kept.items ≡ map (numbered modules) (take l.need-index l.needs);
  fit : All FitsModule (take l.need-index l.needs);
}
