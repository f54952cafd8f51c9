use Rattle.std.proofs.Common.{◌≡◌, ◌∷◌, [], ◌++◌, ◌<◌, length, Vec, Global, FitsSigned, sym, ap, ◌∙◌, arith, rules}
use Rattle.std.specs.Int.{w16}
use Rattle.std.proofs.lemmas.Int.{to_z-of_z}
use Rattle.std.proofs.lemmas.List.Elements.{All-push, All-same}
use Rattle.display_list.specs.devices.Views.{drawn_box, shown_of}
use Rattle.display_list.specs.declared.scenes.DrawnBox.{DrawnBox}
use Rattle.display_list.proofs.BoxLemmas.{boxes_below-none, boxes_below-drawn, boxes_below-other, boxes_below-all, pushed-is}
use Rattle.display_list.proofs.scenes.Scene.drawn_boxes.Goals as goal
use Rattle.display_list.proofs.scenes.Scene.drawn_boxes.Goals.{then-is_drawn+in_ok-push, else-is_drawn}

pub nodes-init : goal.nodes-init
nodes-init c = record { boxes = c.new-boxes.ensures.items ∙ boxes_below-none (shown_of c.args.self.now); within = search rules }

pub nodes-preserved : goal.nodes-preserved
nodes-preserved c =
    let shown = shown_of c.args.self.now in
    let node = c.nodes.number in
    let old = c.nodes.boxes.items in
    elim c.if-is_drawn.branch [
      | then-is_drawn+in_ok-push w ↦
          let level : FitsSigned w16 w.style-level.result.level = search rules in
          let new : c.if-is_drawn.boxes.items ≡ old ++ drawn_box shown node ∷ [] = ap (λ (v : Vec DrawnBox Global). v.items) w.boxes-is ∙ pushed-is shown node old w.push.new.self.items w.style-level.result _ (to_z-of_z w16 w.style-level.result.level level) w.style-level.ensures (w.in_ok-push.ensures {u = tt}).items in
          let P : DrawnBox → Type 0 = λ drawn. drawn.node.0 < length c.args.self.now.tree.now in
          let low : node < length c.args.self.now.tree.now = omega arith in
          record {
            boxes = boxes_below-drawn shown node old c.if-is_drawn.boxes.items (sym c.is_drawn.ensures ∙ w.if-is_drawn.true) c.nodes.invariant.boxes new;
            within = All-same P c.if-is_drawn.boxes.items (old ++ drawn_box shown node ∷ []) new (All-push P old (drawn_box shown node) c.nodes.invariant.within low);
          }
      | else-is_drawn w ↦
          let P : DrawnBox → Type 0 = λ drawn. drawn.node.0 < length c.args.self.now.tree.now in
          let new : c.if-is_drawn.boxes.items ≡ old = ap (λ (v : Vec DrawnBox Global). v.items) w.boxes-is in
          record {
            boxes = new ∙ boxes_below-other shown node old (sym c.is_drawn.ensures ∙ w.if-is_drawn.false) c.nodes.invariant.boxes;
            within = All-same P c.if-is_drawn.boxes.items old new c.nodes.invariant.within;
          }
    ]

pub returns-clause-boxes : goal.returns-clause-boxes
returns-clause-boxes c = boxes_below-all (shown_of c.args.self.now) c.nodes.number c.nodes.boxes.items (omega arith) c.nodes.invariant.boxes
