use Rattle.std.proofs.Common.{◌<◌, length}
use Rattle.display_list.specs.devices.Views.{shown_of}
use Rattle.display_list.specs.declared.scenes.DrawnBox.{DrawnBox}
use Rattle.std.proofs.lemmas.List.Sorted.{All-permutation}
use Rattle.display_list.proofs.BoxLemmas.{boxes_of-is}
use Rattle.display_list.proofs.scenes.Scene.boxes.Goals as goal

pub returns-clause-boxes : goal.returns-clause-boxes
returns-clause-boxes c = boxes_of-is (shown_of c.args.self.now) c.in_ok-boxes.boxes.items c.sort_by_level.new.boxes.items (c.in_ok-boxes.ensures {u = tt}).boxes (c.in_ok-sort_by_level.ensures {u = tt}).order

pub returns-clause-within : goal.returns-clause-within
returns-clause-within c = All-permutation (λ (drawn : DrawnBox). drawn.node.0 < length c.args.self.now.tree.now) c.in_ok-boxes.boxes.items c.sort_by_level.new.boxes.items c.sort_by_level.ensures.permutation (c.in_ok-boxes.ensures {u = tt}).within
