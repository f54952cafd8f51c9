use Rattle.std.proofs.Common.{sym, ap, ◌∙◌}
use Rattle.display_list.specs.devices.Views.{shown_of}
use Rattle.display_list.specs.declared.node_styles.NodeStyle.{NodeStyle}
use Rattle.display_list.proofs.BoxLemmas.{is_drawn-visible, is_drawn-outside, is_drawn-other}
use Rattle.display_list.proofs.scenes.Scene.is_drawn.Goals as goal
use Rattle.display_list.proofs.scenes.Scene.is_drawn.Goals.{then-is_box, else-is_box}

pub returns-then-is_under_body : goal.returns-then-is_under_body
returns-then-is_under_body c =
    let shown = shown_of c.args.self.now in
    elim c.if-is_box.branch [
      | then-is_box w ↦ ap (λ (s : NodeStyle). s.is_visible) c.style.ensures ∙ is_drawn-visible shown c.args.node.0 (sym c.is_box.ensures ∙ w.if-is_box.true) (sym w.is_under_body.ensures ∙ sym w.value-is ∙ c.if-is_under_body.true)
      | else-is_box w ↦ absurd (cc (c.if-is_under_body.true, w.value-is, w.if-is_box.false))
    ]

pub returns-else-is_under_body : goal.returns-else-is_under_body
returns-else-is_under_body c =
    let shown = shown_of c.args.self.now in
    elim c.if-is_box.branch [
      | then-is_box w ↦ c.if-is_under_body.false ∙ is_drawn-outside shown c.args.node.0 (sym c.is_box.ensures ∙ w.if-is_box.true) (sym w.is_under_body.ensures ∙ sym w.value-is ∙ c.if-is_under_body.false)
      | else-is_box w ↦ c.if-is_under_body.false ∙ is_drawn-other shown c.args.node.0 (sym c.is_box.ensures ∙ w.if-is_box.false)
    ]
