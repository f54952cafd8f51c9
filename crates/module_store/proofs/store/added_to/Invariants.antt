use Rattle.std.proofs.Common.{take}
use Rattle.module_store.specs.Slots.{AreAdded}
use Rattle.module_store.proofs.store.added_to.Given as goal

abbrev pub invariant-components : goal.invariant-components
invariant-components l = AreAdded l.slots (take l.component-index l.components) l.added.items
