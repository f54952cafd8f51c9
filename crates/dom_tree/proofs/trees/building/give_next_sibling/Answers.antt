use Rattle.std.proofs.Common.{◌≡◌, Some, length, refl}
use Rattle.std.specs.Prelude.{slice_get}
use Rattle.std.proofs.lemmas.Option.{slice_get_read}
use Rattle.dom_tree.specs.Links.{item_of, links_of, with_next_sibling}
use Rattle.dom_tree.proofs.PlaceLemmas.{map-slice_set-same, map-slice_set-changed_at}
use Rattle.dom_tree.proofs.trees.building.give_next_sibling.Goals as goal

pub returns-clause-items : goal.returns-clause-items
returns-clause-items c =
    let got : slice_get c.args.nodes.now.items c.args.node.0 ≡ Some c.index_mut.result.now = slice_get_read c.args.nodes.now.items (length c.args.nodes.now.items) c.args.node.0 c.index_mut.result.now refl c.requires c.index_mut.ensures.value in
    map-slice_set-same item_of c.args.nodes.now.items c.args.node.0 c.index_mut.result.now _ got refl

pub returns-clause-links : goal.returns-clause-links
returns-clause-links c =
    let got : slice_get c.args.nodes.now.items c.args.node.0 ≡ Some c.index_mut.result.now = slice_get_read c.args.nodes.now.items (length c.args.nodes.now.items) c.args.node.0 c.index_mut.result.now refl c.requires c.index_mut.ensures.value in
    map-slice_set-changed_at links_of (with_next_sibling c.args.next.0) c.args.nodes.now.items c.args.node.0 c.index_mut.result.now _ got refl
