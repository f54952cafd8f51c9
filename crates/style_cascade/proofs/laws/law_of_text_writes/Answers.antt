use Rattle.std.proofs.Common.{ℕ, List}
use Rattle.std.specs.Prelude.{codes}
use Rattle.dom_tree.specs.Items.{Item, changed_at, with_text}
use Rattle.style_cascade.proofs.OwedLemmas.{owed-same}
use Rattle.style_cascade.proofs.TreeLaws.{SameSubjects, right-same, value-same, value_of-attributes}
use Rattle.style_cascade.proofs.laws.law_of_text_writes.Goals as goal

same : (c : goal.After-law_of_text_changes) → (items : List Item) (node : ℕ) (text : List ℕ) → SameSubjects items (changed_at (with_text text) node items)
same c items node text =
    record {
      places = c.law_of_text_changes.ensures.places items node text;
      id = λ other. value_of-attributes items (changed_at (with_text text) node items) other (codes "id") (c.law_of_text_changes.ensures.attributes items node text other);
      class = λ other. value_of-attributes items (changed_at (with_text text) node items) other (codes "class") (c.law_of_text_changes.ensures.attributes items node text other);
      style = λ other. value_of-attributes items (changed_at (with_text text) node items) other (codes "style") (c.law_of_text_changes.ensures.attributes items node text other);
    }

pub returns-clause-right : goal.returns-clause-right
returns-clause-right c = λ items node text present styles right. right-same items (changed_at (with_text text) node items) (same c items node text) present styles right

pub returns-clause-values : goal.returns-clause-values
returns-clause-values c = λ items node text sources present at state property. value-same items (changed_at (with_text text) node items) (same c items node text) sources present at state property

pub returns-clause-owed : goal.returns-clause-owed
returns-clause-owed c = λ items node text states styles. owed-same items (changed_at (with_text text) node items) (c.law_of_text_changes.ensures.places items node text) states styles
