use Rattle.std.proofs.Common.{◌++◌, List, ℕ, ap, ◌∙◌, take_all}
use Rattle.std.specs.List.{flat_map}
use Rattle.display_list.specs.Places.{boxes_of}
use Rattle.display_list.specs.devices.Views.{shown_of}
use Rattle.display_list.specs.declared.scenes.DrawnBox.{DrawnBox}
use Rattle.display_list.proofs.BoxLemmas.{box_lines, box_lines-map}
use Rattle.display_list.proofs.show.push_boxes.Goals as goal

pub returns-clause-ok : goal.returns-clause-ok
returns-clause-ok c =
    let shown = shown_of c.args.scene.now in
    let out = c.args.out.now.items in
    let all = take_all c.boxes.drawn-index c.deref-drawn-items.result.now c.boxes-test.false ∙ c.deref-drawn-items.ensures.value ∙ (c.in_ok-boxes.ensures {u = tt}).boxes in
    c.boxes.invariant ∙ ap (λ (l : List DrawnBox). out ++ flat_map (box_lines shown) l) all ∙ ap (λ (l : List ℕ). out ++ l) (box_lines-map shown (boxes_of shown))
