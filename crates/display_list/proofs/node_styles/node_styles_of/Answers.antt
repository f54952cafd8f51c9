use Rattle.std.proofs.Common.{◌++◌, ◌∷◌, [], ap, sym, ◌∙◌, arith}
use Rattle.std.proofs.lemmas.List.FromFn.{map-range_with_len_more}
use Rattle.style_cascade.specs.Cascade.{Sources}
use Rattle.display_list.specs.Shown.{node_style, present_value}
use Rattle.display_list.proofs.node_styles.node_styles_of.Goals as goal

pub nodes-preserved : goal.nodes-preserved
nodes-preserved c =
    let items = c.args.tree.now in
    let focus = c.args.focus.now in
    let style = c.at.ensures.style ∙ ap (λ (s : Sources). node_style (present_value items s focus) items c.nodes.number) c.nodes.invariant.sources in
    record {
      each = (c.in_ok-push.ensures {u = tt}).items ∙ (λ i. c.nodes.invariant.each i ++ style i ∷ []) ∙ sym (map-range_with_len_more (node_style (present_value items c.args.styles.now.sources focus) items) 0 c.nodes.number c.nodes.number (omega arith));
      sources = c.at.ensures.sources ∙ c.nodes.invariant.sources;
      owed_still = omega (arith, c.at.ensures.owed, c.nodes.invariant.owed_still);
      right = c.at.ensures.right;
    }
