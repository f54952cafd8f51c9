use Rattle.dom_tree.proofs.NestedLemmas.{IsTree-nested, length-items_from}
use Rattle.dom_tree.proofs.laws.law_of_nested_nodes.Goals as goal

pub returns-clause-each : goal.returns-clause-each
returns-clause-each c = λ parent number nested. length-items_from parent number nested

pub returns-clause-tree : goal.returns-clause-tree
returns-clause-tree c = λ tag attributes children room. IsTree-nested tag attributes children room
