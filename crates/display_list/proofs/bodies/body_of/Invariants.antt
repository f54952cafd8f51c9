use Rattle.display_list.proofs.FirstLemmas.{NoneBefore}
use Rattle.display_list.proofs.bodies.body_of.Given as goal

abbrev pub invariant-nodes : goal.invariant-nodes
invariant-nodes l = NoneBefore l.tree l.number
