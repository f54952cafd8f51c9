use Rattle.std.proofs.Common.{◌≡◌, ℕ, List, sym, ap, subst, ◌∙◌}
use Rattle.std.specs.Prelude.{false, IfSome}
use Rattle.indexmap.specs.IndexMap.{get}
use Rattle.bml_bytes.specs.Words.{is_same}
use Rattle.dom_tree.specs.Items.{Item, IsElement, changed_at, with_attribute}
use Rattle.dom_tree.specs.Walks.{KeepsPlaces, node_of_id}
use Rattle.dom_tree.specs.NodeNumbers.{number_of}
use Rattle.dom_tree.specs.Links.{items_in}
use Rattle.dom_tree.specs.declared.nodes.Node.{Node}
use Rattle.dom_tree.proofs.ShapeLemmas.{KeepsPlaces-same, with_attribute-same}
use Rattle.dom_tree.proofs.KeptLemmas.{IsKept-id-anew}
use Rattle.dom_tree.proofs.trees.Tree.set_id.Goals as goal

pub invariant_of-self-2 : goal.invariant_of-self-2
invariant_of-self-2 c =
    let nodes = c.self.inside.nodes.items in
    let new = c.put_id.new.nodes.items in
    let n = c.args.node.0 in
    let name = c.args.name.now in
    let value = c.args.value in
    let had = c.in_ok-put.put.had in
    let room = c.put_id.new.ids in
    let first = c.index_had.new.ids in
    let second = c.index_anew.new.ids in
    IsKept-id-anew nodes new c.self.inside.ids room first second n name value had
    (subst (λ (i : List Item). IsElement i n) (sym c.self.view_is) c.requires.element)
    c.in_ok-put.ensures.had
    c.in_ok-put.ensures.ok c.put_id.ensures.links c.requires.name c.put_id.ensures.entries
    (subst (λ (ns : List Node). IfSome had (λ q. number_of (get is_same first q) ≡ node_of_id (items_in ns) q)) c.deref.ensures.value c.index_had.ensures.here)
    c.index_had.ensures.others
    (subst (λ (q : List ℕ). number_of (get is_same second q) ≡ node_of_id (items_in new) q) c.in_ok-put.ensures.id (subst (λ (ns : List Node). number_of (get is_same second c.in_ok-put.put.id) ≡ node_of_id (items_in ns) c.in_ok-put.put.id) c.deref-2.ensures.value c.index_anew.ensures.here))
    (subst (λ (q : List ℕ). (other : List ℕ) → is_same q other ≡ false → get is_same second other ≡ get is_same first other) c.in_ok-put.ensures.id c.index_anew.ensures.others)
    c.self.invariant

pub returns-clause-places : goal.returns-clause-places
returns-clause-places c =
    let same : items_in c.put_id.new.nodes.items ≡ changed_at (with_attribute c.args.name.now c.args.value) c.args.node.0 c.args.self.now =
    c.in_ok-put.ensures.ok ∙ ap (changed_at (with_attribute c.args.name.now c.args.value) c.args.node.0) c.self.view_is in
    subst (λ (i : List Item). KeepsPlaces c.args.self.now i) (sym same) (KeepsPlaces-same c.args.self.now _ (with_attribute-same c.args.name.now c.args.value c.args.node.0 c.args.self.now))
