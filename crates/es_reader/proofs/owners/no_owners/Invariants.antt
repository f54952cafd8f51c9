use Rattle.std.proofs.Common.{◌≡◌, None, replicate}
use Rattle.es_reader.proofs.owners.no_owners.Given as goal

abbrev pub invariant-nodes : goal.invariant-nodes
invariant-nodes l = l.owners.items ≡ replicate l.counter None
