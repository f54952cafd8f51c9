use Rattle.dom_tree.proofs.PathLemmas.{parent-facts, parent_of-within}
use Rattle.dom_tree.proofs.SubtreeLemmas.{root-alone}
use Rattle.dom_tree.proofs.laws.law_of_parents.Goals as goal

pub returns-clause-within : goal.returns-clause-within
returns-clause-within c = λ items node up e. parent_of-within items node up e

pub returns-clause-before : goal.returns-clause-before
returns-clause-before c = λ items tree node up e. parent-facts items tree node up e

pub returns-clause-root : goal.returns-clause-root
returns-clause-root c = λ items tree node within e. root-alone items tree node within e
