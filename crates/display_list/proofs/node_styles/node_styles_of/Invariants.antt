use Rattle.std.proofs.Common.{◌≡◌, ◌+◌, ◌≤◌, map}
use Rattle.std.specs.List.{range_with_len}
use Rattle.style_cascade.specs.Keeping.{IsRight, owed}
use Rattle.style_cascade.specs.States.{present_state}
use Rattle.display_list.specs.Shown.{node_style, present_value}
use Rattle.display_list.proofs.node_styles.node_styles_of.Given as goal

abbrev pub invariant-nodes : goal.invariant-nodes
invariant-nodes l = record {
  each : l.node_styles.items ≡ map (node_style (present_value l.tree l.fn.styles.sources l.focus) l.tree) (range_with_len 0 l.number);
  sources : l.styles.sources ≡ l.fn.styles.sources;
  owed_still : l.styles.worked + owed l.tree (present_state l.focus) l.styles ≤ l.fn.styles.worked + owed l.tree (present_state l.focus) l.fn.styles;
  right : IsRight l.tree (present_state l.focus) l.styles;
}
