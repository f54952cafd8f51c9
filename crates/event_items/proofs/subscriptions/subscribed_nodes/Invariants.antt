use Rattle.std.proofs.Common.{◌≡◌, length, map, take}
use Rattle.event_items.specs.Subscriptions.{starts_subscribed}
use Rattle.event_items.proofs.subscriptions.subscribed_nodes.Given as goal

abbrev pub invariant-nodes : goal.invariant-nodes
invariant-nodes l = record { found : l.subscribed.items ≡ map starts_subscribed (take l.number l.tree); all : l.number-end ≡ length l.tree }
