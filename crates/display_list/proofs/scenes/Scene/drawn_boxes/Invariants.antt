use Rattle.std.proofs.Common.{◌≡◌, ◌<◌, length}
use Rattle.std.specs.Prelude.{All}
use Rattle.display_list.specs.devices.Views.{shown_of}
use Rattle.display_list.proofs.BoxLemmas.{boxes_below}
use Rattle.display_list.proofs.scenes.Scene.drawn_boxes.Given as goal

abbrev pub invariant-nodes : goal.invariant-nodes
invariant-nodes l = record {
  boxes : l.boxes.items ≡ boxes_below (shown_of l.self) l.number;
  within : All (λ drawn. drawn.node.0 < length l.self.tree.now) l.boxes.items;
}
