use Rattle.std.proofs.Common.{◌≡◌, ◌++◌, take}
use Rattle.std.specs.Prelude.{map}
use Rattle.module_store.proofs.store.add_changes.Given as goal

abbrev pub invariant-more : goal.invariant-more
invariant-more l = l.changes.items ≡ l.fn.changes.items ++ map (λ change. (l.component, change)) (take l.change-index l.more)
