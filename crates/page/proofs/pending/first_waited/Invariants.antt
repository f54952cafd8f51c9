use Rattle.std.proofs.Common.{◌≡◌, true, take}
use Rattle.module_locks.specs.Locks.{Modules}
use Rattle.module_locks.specs.Standing.{StandsFor}
use Rattle.page.specs.Loading.{are_settled}
use Rattle.page.proofs.pending.first_waited.Given as goal

abbrev pub invariant-needs : goal.invariant-needs
invariant-needs l = (modules : Modules) → StandsFor l.modules modules → are_settled modules (take l.place l.needs) ≡ true
