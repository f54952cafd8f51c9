use Rattle.std.proofs.Common.{◌≡◌, ◌*◌, length}
use Rattle.style_cascade.proofs.KeptLemmas.{IsSaid}
use Rattle.style_cascade.proofs.said.put_nodes.Given as goal

abbrev pub invariant-nodes : goal.invariant-nodes
invariant-nodes l = record {
  room : length l.table ≡ 51 * length l.tree;
  said : IsSaid l.tree l.sheet l.table l.number;
}
