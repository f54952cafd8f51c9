use Rattle.dom_tree.proofs.PathLemmas.{Falls-tree, path_of-step}
use Rattle.dom_tree.proofs.SubtreeLemmas.{path_of-below, path_of-through}
use Rattle.dom_tree.proofs.laws.law_of_paths.Goals as goal

pub returns-clause-step : goal.returns-clause-step
returns-clause-step c = λ items tree node. path_of-step items (Falls-tree items tree) node

pub returns-clause-before : goal.returns-clause-before
returns-clause-before c = λ items tree node up h. path_of-below items (Falls-tree items tree) node up h

pub returns-clause-through : goal.returns-clause-through
returns-clause-through c = λ items tree node middle up h k. path_of-through items (Falls-tree items tree) node middle up h k
