use Rattle.dom_tree.specs.Items.{changed_at, with_text}
use Rattle.dom_tree.proofs.ChangeLemmas.{attributes_of-text, text_of-given, text_of-others}
use Rattle.dom_tree.proofs.ShapeLemmas.{KeepsPlaces-same, with_text-same}
use Rattle.dom_tree.proofs.laws.law_of_text_changes.Goals as goal

pub returns-clause-places : goal.returns-clause-places
returns-clause-places c = λ items node text. KeepsPlaces-same items (changed_at (with_text text) node items) (with_text-same text node items)

pub returns-clause-text : goal.returns-clause-text
returns-clause-text c = λ items node text h. text_of-given items node text h

pub returns-clause-others : goal.returns-clause-others
returns-clause-others c = λ items node text other h. text_of-others items node text other h

pub returns-clause-attributes : goal.returns-clause-attributes
returns-clause-attributes c = λ items node text other. attributes_of-text items node text other
