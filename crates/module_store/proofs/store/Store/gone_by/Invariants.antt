use Rattle.std.proofs.Common.{◌≡◌}
use Rattle.module_store.specs.Store.{Stored, gone_below}
use Rattle.module_store.specs.Standing.{StandsFor}
use Rattle.module_store.proofs.store.Store.gone_by.Given as goal

abbrev pub invariant-tags : goal.invariant-tags
invariant-tags l = (stored : Stored) → StandsFor l.self stored → l.gone.items ≡ gone_below l.tag l.components stored
