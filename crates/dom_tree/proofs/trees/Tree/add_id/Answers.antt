use Rattle.std.proofs.Common.{◌≡◌, ℕ, List, Some, None, sym, ap, subst, ◌∙◌}
use Rattle.std.specs.Prelude.{false, min}
use Rattle.std.specs.Option.{option_map_or}
use Rattle.indexmap.specs.IndexMap.{get}
use Rattle.bml_bytes.specs.Words.{is_same}
use Rattle.dom_tree.specs.Items.{Item, IsElement, value_of, changed_at, with_attribute}
use Rattle.dom_tree.specs.Walks.{KeepsPlaces}
use Rattle.dom_tree.specs.NodeNumbers.{number_of}
use Rattle.dom_tree.specs.Links.{items_in}
use Rattle.dom_tree.proofs.ShapeLemmas.{KeepsPlaces-same, with_attribute-same}
use Rattle.dom_tree.proofs.KeptLemmas.{IsKept-id-more, last-attribute}
use Rattle.dom_tree.proofs.trees.Tree.add_id.Goals as goal

pub invariant_of-self-2 : goal.invariant_of-self-2
invariant_of-self-2 c =
    let nodes = c.self.inside.nodes.items in
    let n = c.args.node.0 in
    let name = c.args.name in
    let value = c.args.value in
    let more = c.index_one_more.new.ids in
    let room = c.put_id.new.ids in
    IsKept-id-more nodes c.put_id.new.nodes.items c.self.inside.ids room more n name value
    (subst (λ (i : List Item). IsElement i n) (sym c.self.view_is) c.requires.element)
    (subst (λ (i : List Item). value_of i n name ≡ None) (sym c.self.view_is) c.requires.absent)
    c.in_ok-put.ensures.ok c.put_id.ensures.links c.requires.name c.put_id.ensures.entries
    (subst (λ (q : List ℕ). number_of (get is_same more q) ≡ Some (option_map_or (min n) (number_of (get is_same room q)) n)) c.in_ok-put.ensures.id c.index_one_more.ensures.here)
    (subst (λ (q : List ℕ). (other : List ℕ) → is_same q other ≡ false → get is_same more other ≡ get is_same room other) c.in_ok-put.ensures.id c.index_one_more.ensures.others)
    c.self.invariant

pub returns-clause-ok : goal.returns-clause-ok
returns-clause-ok c =
    c.in_ok-put.ensures.ok
    ∙ (ap (changed_at (with_attribute c.args.name c.args.value) c.args.node.0) c.self.view_is
    ∙ last-attribute c.args.self.now c.args.node.0 c.args.name c.args.value c.requires.element c.requires.absent)

pub returns-clause-places : goal.returns-clause-places
returns-clause-places c =
    let same : items_in c.put_id.new.nodes.items ≡ changed_at (with_attribute c.args.name c.args.value) c.args.node.0 c.args.self.now =
    c.in_ok-put.ensures.ok ∙ ap (changed_at (with_attribute c.args.name c.args.value) c.args.node.0) c.self.view_is in
    subst (λ (i : List Item). KeepsPlaces c.args.self.now i) (sym same) (KeepsPlaces-same c.args.self.now _ (with_attribute-same c.args.name c.args.value c.args.node.0 c.args.self.now))
