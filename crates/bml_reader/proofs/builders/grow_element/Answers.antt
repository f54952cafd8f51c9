use Rattle.std.proofs.Common.{◌≡◌, ℕ, List, Option, Some, [], ◌∷◌, ◌++◌, sym, subst, ap, ◌∙◌}
use Rattle.bml_reader.specs.devices.Nodes.{top_of, numbers_in}
use Rattle.bml_reader.specs.devices.AttributeViews.{attributes_in_map}
use Rattle.bml_reader.specs.devices.BuilderViews.{IsGrown, items_or_none}
use Rattle.dom_tree.specs.Items.{Item, element_in}
use Rattle.dom_tree.specs.declared.node_ids.NodeId.{NodeId}
use Rattle.bml_reader.proofs.BuilderLemmas.{places-grown, given-some, numbers-more}
use Rattle.bml_reader.proofs.builders.grow_element.Goals as goal

pub returns-in_err-give_attributes-clause-still : goal.returns-in_err-give_attributes-clause-still
returns-in_err-give_attributes-clause-still c =
    let still : IsGrown c.grow.new.tree (numbers_in c.args.path.now.items) = subst (λ (z : List NodeId). IsGrown c.grow.new.tree (numbers_in z)) c.as_slice.ensures.value c.grow.ensures.still in
    places-grown c.grow.new.tree c.give_attributes.new.tree (numbers_in c.args.path.now.items) c.give_attributes.ensures.places still

pub returns-in_err-push-clause-still : goal.returns-in_err-push-clause-still
returns-in_err-push-clause-still c =
    let still : IsGrown c.grow.new.tree (numbers_in c.args.path.now.items) = subst (λ (z : List NodeId). IsGrown c.grow.new.tree (numbers_in z)) c.as_slice.ensures.value c.grow.ensures.still in
    let now : IsGrown c.give_attributes.new.tree (numbers_in c.args.path.now.items) = places-grown c.grow.new.tree c.give_attributes.new.tree (numbers_in c.args.path.now.items) c.give_attributes.ensures.places still in
    subst (λ (z : List NodeId). IsGrown c.give_attributes.new.tree (numbers_in z)) (sym c.in_err-push.ensures.items) now

pub returns-in_ok-push-clause-added : goal.returns-in_ok-push-clause-added
returns-in_ok-push-clause-added c =
    let items : List Item = items_or_none c.args.tree.now in
    let parent : Option ℕ = top_of (numbers_in c.args.path.now.items) in
    let added : c.grow.new.tree ≡ Some (items ++ element_in parent c.args.tag ∷ []) = c.in_ok-node.ensures.added ∙ ap (λ (z : List NodeId). Some (items ++ element_in (top_of (numbers_in z)) c.args.tag ∷ [])) c.as_slice.ensures.value in
    given-some c.grow.new.tree c.give_attributes.new.tree items parent c.args.tag (attributes_in_map c.args.attributes.now) c.in_ok-node.node.0 added c.in_ok-node.ensures.number c.in_ok-give_attributes.ensures.ok

pub returns-in_ok-push-clause-still : goal.returns-in_ok-push-clause-still
returns-in_ok-push-clause-still c =
    let ns : List ℕ = c.in_ok-node.node.0 ∷ numbers_in c.args.path.now.items in
    let open_now : IsGrown c.grow.new.tree ns = subst (λ (z : List NodeId). IsGrown c.grow.new.tree (c.in_ok-node.node.0 ∷ numbers_in z)) c.as_slice.ensures.value c.in_ok-node.ensures.open in
    let now : IsGrown c.give_attributes.new.tree ns = places-grown c.grow.new.tree c.give_attributes.new.tree ns c.give_attributes.ensures.places open_now in
    subst (λ (z : List ℕ). IsGrown c.give_attributes.new.tree z) (sym (numbers-more c.args.path.now.items c.in_ok-node.node) ∙ ap numbers_in (sym c.in_ok-push.ensures.items)) now

pub returns-else-not-is_empty-clause-added : goal.returns-else-not-is_empty-clause-added
returns-else-not-is_empty-clause-added c =
    let items : List Item = items_or_none c.args.tree.now in
    let parent : Option ℕ = top_of (numbers_in c.args.path.now.items) in
    let added : c.grow.new.tree ≡ Some (items ++ element_in parent c.args.tag ∷ []) = c.in_ok-node.ensures.added ∙ ap (λ (z : List NodeId). Some (items ++ element_in (top_of (numbers_in z)) c.args.tag ∷ [])) c.as_slice.ensures.value in
    given-some c.grow.new.tree c.give_attributes.new.tree items parent c.args.tag (attributes_in_map c.args.attributes.now) c.in_ok-node.node.0 added c.in_ok-node.ensures.number c.in_ok-give_attributes.ensures.ok

pub returns-else-not-is_empty-clause-still : goal.returns-else-not-is_empty-clause-still
returns-else-not-is_empty-clause-still c =
    let still : IsGrown c.grow.new.tree (numbers_in c.args.path.now.items) = subst (λ (z : List NodeId). IsGrown c.grow.new.tree (numbers_in z)) c.as_slice.ensures.value c.grow.ensures.still in
    places-grown c.grow.new.tree c.give_attributes.new.tree (numbers_in c.args.path.now.items) c.give_attributes.ensures.places still
