use Rattle.std.proofs.Common.{◌≡◌, length, take}
use Rattle.event_items.specs.EventItems.{items_from}
use Rattle.event_items.proofs.items.event_items.Given as goal

abbrev pub invariant-nodes : goal.invariant-nodes
invariant-nodes l = record { found : l.items.items ≡ items_from l.base 0 (take l.number l.tree); all : l.number-end ≡ length l.tree }
