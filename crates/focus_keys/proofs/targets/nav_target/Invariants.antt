use Rattle.std.proofs.Common.{◌≡◌}
use Rattle.style_cascade.specs.StyledTrees.{AreStylesOf, styled_tree}
use Rattle.focus_keys.specs.Views.{is_nav_target}
use Rattle.focus_keys.proofs.TargetLemmas.{NoneBefore}
use Rattle.focus_keys.proofs.targets.nav_target.Given as goal

abbrev pub invariant-nodes : goal.invariant-nodes
invariant-nodes l = record {
  none : NoneBefore (is_nav_target (styled_tree l.tree l.fn.styles l.focus) l.number) l.place;
  sources : l.styles.sources ≡ l.fn.styles.sources;
  right : AreStylesOf l.tree l.focus l.styles;
}
