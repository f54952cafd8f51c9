use Rattle.std.proofs.Common.{◌≡◌, List, sym, ap, subst, ◌∙◌}
use Rattle.dom_tree.specs.Items.{Item, changed_at, with_attribute}
use Rattle.dom_tree.specs.Walks.{KeepsPlaces}
use Rattle.dom_tree.specs.Links.{items_in}
use Rattle.dom_tree.proofs.ShapeLemmas.{KeepsPlaces-same, with_attribute-same}
use Rattle.dom_tree.proofs.KeptLemmas.{IsKept-attribute, last-attribute}
use Rattle.dom_tree.proofs.trees.Tree.add_attribute.Goals as goal

pub invariant_of-self-2 : goal.invariant_of-self-2
invariant_of-self-2 c = IsKept-attribute c.self.inside.nodes.items c.put_attribute.new.nodes.items c.self.inside.ids c.args.node.0 c.args.name c.args.value c.in_ok-put_attribute.ensures.ok c.put_attribute.ensures.links (sym c.is_id.ensures ∙ c.if-is_id.false) c.self.invariant

pub returns-clause-ok : goal.returns-clause-ok
returns-clause-ok c =
    c.in_ok-put_attribute.ensures.ok
    ∙ (ap (changed_at (with_attribute c.args.name c.args.value) c.args.node.0) c.self.view_is
    ∙ last-attribute c.args.self.now c.args.node.0 c.args.name c.args.value c.requires.element c.requires.absent)

pub returns-clause-places : goal.returns-clause-places
returns-clause-places c =
    let same : items_in c.put_attribute.new.nodes.items ≡ changed_at (with_attribute c.args.name c.args.value) c.args.node.0 c.args.self.now =
    c.in_ok-put_attribute.ensures.ok ∙ ap (changed_at (with_attribute c.args.name c.args.value) c.args.node.0) c.self.view_is in
    subst (λ (i : List Item). KeepsPlaces c.args.self.now i) (sym same) (KeepsPlaces-same c.args.self.now _ (with_attribute-same c.args.name c.args.value c.args.node.0 c.args.self.now))
