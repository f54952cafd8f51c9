use Rattle.std.proofs.Common.{◌≡◌, ◌++◌, take}
use Rattle.std.specs.List.{flat_map}
use Rattle.display_list.specs.devices.Views.{shown_of}
use Rattle.display_list.proofs.BoxLemmas.{box_lines}
use Rattle.display_list.proofs.show.push_boxes.Given as goal

abbrev pub invariant-boxes : goal.invariant-boxes
invariant-boxes l = l.out.items ≡ l.fn.out.items ++ flat_map (box_lines (shown_of l.scene)) (take l.drawn-index l.drawn-items)
