use Rattle.std.proofs.Common.{◌≡◌, Some, length, refl, sym, subst}
use Rattle.std.specs.Prelude.{slice_get, slice_set}
use Rattle.std.proofs.lemmas.Option.{slice_get_read}
use Rattle.dom_tree.specs.Items.{changed_at}
use Rattle.dom_tree.specs.Links.{item_of, links_in, with_last_child}
use Rattle.dom_tree.specs.declared.node_ids.NodeId.{NodeId}
use Rattle.dom_tree.proofs.PlaceLemmas.{map-slice_set-same}
use Rattle.dom_tree.proofs.KeptLemmas.{give_last_child-links}
use Rattle.dom_tree.proofs.trees.building.give_last_child.Goals as goal

pub returns-clause-items : goal.returns-clause-items
returns-clause-items c =
    let got : slice_get c.args.nodes.now.items c.args.parent.0 ≡ Some c.index_mut-up.result.now = slice_get_read c.args.nodes.now.items (length c.args.nodes.now.items) c.args.parent.0 c.index_mut-up.result.now refl c.requires c.index_mut-up.ensures.value in
    map-slice_set-same item_of c.args.nodes.now.items c.args.parent.0 c.index_mut-up.result.now _ got refl

pub returns-clause-links : goal.returns-clause-links
returns-clause-links c =
    let got : slice_get c.args.nodes.now.items c.args.parent.0 ≡ Some c.index_mut-up.result.now = slice_get_read c.args.nodes.now.items (length c.args.nodes.now.items) c.args.parent.0 c.index_mut-up.result.now refl c.requires c.index_mut-up.ensures.value in
    let node = c.index_mut-up.result.now in
    subst (λ (first : NodeId). links_in (slice_set c.args.nodes.now.items c.args.parent.0 (record { kind = node.kind; parent = node.parent; first_child = Some first; last_child = Some c.args.child; next_sibling = node.next_sibling; previous_sibling = node.previous_sibling })) ≡ changed_at (with_last_child c.args.child.0) c.args.parent.0 (links_in c.args.nodes.now.items)) (sym c.unwrap_or.ensures)
    (give_last_child-links c.args.nodes.now.items c.args.parent.0 node c.args.child got)
