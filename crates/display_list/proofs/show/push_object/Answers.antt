use Rattle.display_list.specs.Show.{attribute_field}
use Rattle.std.specs.Prelude.{codes}
use Rattle.display_list.specs.devices.Views.{shown_of}
use Rattle.display_list.proofs.LineLemmas.{picture-parts, picture_line-is}
use Rattle.display_list.proofs.ShowLemmas.{object_line-is}
use Rattle.display_list.proofs.show.push_object.Goals as goal

pub returns-clause-ok : goal.returns-clause-ok
returns-clause-ok c =
    let scene = c.args.scene.now in
    let node = c.args.node.0 in
    let out = c.args.out.now.items in
    object_line-is (shown_of scene) node c.place.result scene.names.media_type scene.names.data_name out c.push_line_end.new.out.items c.place.ensures c.requires.scene.names.media_type c.requires.scene.names.data_name
    (picture_line-is out c.push_line_end.new.out.items c.place.result (attribute_field scene.tree.now node scene.names.media_type) (attribute_field scene.tree.now node scene.names.data_name)
    (picture-parts out _ _ (codes " ") _ (codes "\n") _ _ c.push_line_end.new.out.items (c.in_ok-push_picture_front.ensures {u = tt}).ok (c.in_ok-push_picture_names.ensures {u = tt}).ok (c.in_ok-push_line_end.ensures {u = tt}).ok))
