use Rattle.std.proofs.Common.{ℕ, List}
use Rattle.std.specs.Prelude.{IsFalse, codes}
use Rattle.bml_bytes.specs.Words.{is_same}
use Rattle.dom_tree.specs.Items.{Item, changed_at, with_attribute}
use Rattle.style_cascade.proofs.OwedLemmas.{owed-same}
use Rattle.style_cascade.proofs.TreeLaws.{SameSubjects, right-same, value-same}
use Rattle.style_cascade.proofs.laws.law_of_attribute_writes.Goals as goal

same : (c : goal.After-law_of_attribute_changes) → (items : List Item) (node : ℕ) (name value : List ℕ) → IsFalse (is_same name (codes "id")) → IsFalse (is_same name (codes "class")) → IsFalse (is_same name (codes "style")) → SameSubjects items (changed_at (with_attribute name value) node items)
same c items node name value id class style =
    record {
      places = c.law_of_attribute_changes.ensures.places items node name value;
      id = λ other. c.law_of_attribute_changes.ensures.names items node name value other (codes "id") id;
      class = λ other. c.law_of_attribute_changes.ensures.names items node name value other (codes "class") class;
      style = λ other. c.law_of_attribute_changes.ensures.names items node name value other (codes "style") style;
    }

pub returns-clause-right : goal.returns-clause-right
returns-clause-right c = λ items node name value present styles id class style right. right-same items (changed_at (with_attribute name value) node items) (same c items node name value id class style) present styles right

pub returns-clause-values : goal.returns-clause-values
returns-clause-values c = λ items node name value sources present at state property id class style. value-same items (changed_at (with_attribute name value) node items) (same c items node name value id class style) sources present at state property

pub returns-clause-owed : goal.returns-clause-owed
returns-clause-owed c = λ items node name value states styles. owed-same items (changed_at (with_attribute name value) node items) (c.law_of_attribute_changes.ensures.places items node name value) states styles
