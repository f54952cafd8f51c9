use Rattle.std.proofs.Common.{refl}
use Rattle.dom_tree.specs.NodeNumbers.{number_of}
use Rattle.display_list.specs.devices.Views.{shown_of}
use Rattle.display_list.proofs.ShowLemmas.{display_lines-is}
use Rattle.display_list.proofs.show.push_scene.Goals as goal

pub returns-clause-ok : goal.returns-clause-ok
returns-clause-ok c = display_lines-is (shown_of c.args.scene.now) (shown_of c.args.scene.now) (number_of c.args.focus) c.args.out.now.items c.push_boxes.new.out.items c.push_focus.new.out.items refl (c.in_ok-push_boxes.ensures {u = tt}).ok (c.in_ok-push_focus.ensures {u = tt}).ok
