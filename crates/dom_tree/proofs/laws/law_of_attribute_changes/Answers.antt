use Rattle.dom_tree.specs.Items.{changed_at, with_attribute}
use Rattle.dom_tree.proofs.ChangeLemmas.{attributes_of-nodes, text_of-attribute, value_of-given, value_of-names}
use Rattle.dom_tree.proofs.ShapeLemmas.{KeepsPlaces-same, with_attribute-same}
use Rattle.dom_tree.proofs.laws.law_of_attribute_changes.Goals as goal

pub returns-clause-places : goal.returns-clause-places
returns-clause-places c = λ items node name value. KeepsPlaces-same items (changed_at (with_attribute name value) node items) (with_attribute-same name value node items)

pub returns-clause-value : goal.returns-clause-value
returns-clause-value c = λ items node name value h. value_of-given items node name value h

pub returns-clause-names : goal.returns-clause-names
returns-clause-names c = λ items node name value other found h. value_of-names items node name value other found h

pub returns-clause-nodes : goal.returns-clause-nodes
returns-clause-nodes c = λ items node name value other h. attributes_of-nodes items node name value other h

pub returns-clause-texts : goal.returns-clause-texts
returns-clause-texts c = λ items node name value other. text_of-attribute items node name value other
