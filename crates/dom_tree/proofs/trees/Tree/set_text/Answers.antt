use Rattle.std.proofs.Common.{◌≡◌, List, Some, length, refl, sym, ap, subst, ◌∙◌}
use Rattle.std.specs.Prelude.{slice_get, slice_set}
use Rattle.std.proofs.lemmas.Option.{slice_get_read}
use Rattle.dom_tree.specs.Items.{Item, IsText, changed_at, with_text}
use Rattle.dom_tree.specs.Walks.{KeepsPlaces}
use Rattle.dom_tree.specs.Links.{items_in}
use Rattle.dom_tree.proofs.ShapeLemmas.{KeepsPlaces-same, with_text-same}
use Rattle.dom_tree.proofs.LinkLemmas.{within-nodes}
use Rattle.dom_tree.proofs.KeptLemmas.{IsKept-text, set_text-items, set_text-node, IsText-within}
use Rattle.dom_tree.proofs.trees.Tree.set_text.Goals as goal

got : (c : goal.Joined-index_mut) → slice_get c.self.inside.nodes.items c.args.node.0 ≡ Some c.index_mut.result.now
got c = slice_get_read c.self.inside.nodes.items (length c.self.inside.nodes.items) c.args.node.0 c.index_mut.result.now refl
    (within-nodes c.self.inside.nodes.items c.args.self.now c.args.node.0 c.self.view_is (IsText-within c.args.self.now c.args.node.0 c.requires)) c.index_mut.ensures.value

is_text : (c : goal.Joined-index_mut) → IsText (items_in c.self.inside.nodes.items) c.args.node.0
is_text c = subst (λ (items : List Item). IsText items c.args.node.0) (sym c.self.view_is) c.requires

pub invariant_of-self : goal.invariant_of-self
invariant_of-self c = IsKept-text c.self.inside.nodes.items c.self.inside.ids c.args.node.0 c.index_mut.result.now c.args.text (got c) (is_text c) c.self.invariant

same : (c : goal.Joined-index_mut) → items_in (slice_set c.self.inside.nodes.items c.args.node.0 (set_text-node c.index_mut.result.now c.args.text)) ≡ changed_at (with_text c.args.text) c.args.node.0 c.args.self.now
same c = set_text-items c.self.inside.nodes.items c.args.node.0 c.index_mut.result.now c.args.text (got c) (is_text c) ∙ ap (changed_at (with_text c.args.text) c.args.node.0) c.self.view_is

pub returns-clause-text : goal.returns-clause-text
returns-clause-text c = same c

pub returns-clause-places : goal.returns-clause-places
returns-clause-places c = subst (λ (items : List Item). KeepsPlaces c.args.self.now items) (sym (same c)) (KeepsPlaces-same c.args.self.now (changed_at (with_text c.args.text) c.args.node.0 c.args.self.now) (with_text-same c.args.text c.args.node.0 c.args.self.now))
