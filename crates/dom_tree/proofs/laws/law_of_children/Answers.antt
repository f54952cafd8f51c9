use Rattle.dom_tree.proofs.ChildLemmas.{children_of-hang, children_of-next, children_of-previous, children_of-rise, siblings_of-children}
use Rattle.dom_tree.proofs.laws.law_of_children.Goals as goal

pub returns-clause-hang : goal.returns-clause-hang
returns-clause-hang c = λ items node child. children_of-hang items node child

pub returns-clause-rise : goal.returns-clause-rise
returns-clause-rise c = λ items node. children_of-rise items node

pub returns-clause-siblings : goal.returns-clause-siblings
returns-clause-siblings c = λ items node up e. siblings_of-children items node up e

pub returns-clause-next : goal.returns-clause-next
returns-clause-next c = λ items node child done left e. children_of-next items node child done left e

pub returns-clause-previous : goal.returns-clause-previous
returns-clause-previous c = λ items node child done left e. children_of-previous items node child done left e
