use Rattle.std.proofs.Common.{◌≡◌}
use Rattle.es_reader.specs.devices.Owners.{handed_down}
use Rattle.es_reader.proofs.owners.hand_down.Given as goal

abbrev pub invariant-nodes : goal.invariant-nodes
invariant-nodes l =
    handed_down l.nodes l.number l.owners.items
    ≡ handed_down l.nodes l.count l.initial.owners.items

abbrev pub decreases-nodes : goal.decreases-nodes
decreases-nodes l = l.number
