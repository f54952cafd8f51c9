use Rattle.display_list.specs.devices.Views.{shown_of}
use Rattle.display_list.proofs.ShowLemmas.{element_lines-is}
use Rattle.display_list.proofs.show.push_element.Goals as goal

pub returns-clause-ok : goal.returns-clause-ok
returns-clause-ok c = element_lines-is (shown_of c.args.scene.now) c.args.node.0 c.place.result c.style.result c.args.out.now.items _ _ c.place.ensures c.style.ensures (c.in_ok-push_box_line.ensures {u = tt}).ok (c.in_ok-push_inside.ensures {u = tt}).ok
