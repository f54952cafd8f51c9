use Rattle.std.proofs.Common.{◌-◌, ◌≤◌, length}
use Rattle.es_reader.proofs.owners.node_count.Given as goal

abbrev pub invariant-nodes : goal.invariant-nodes
invariant-nodes l = l.count ≤ length l.nodes

abbrev pub decreases-nodes : goal.decreases-nodes
decreases-nodes l = length l.nodes - l.count
