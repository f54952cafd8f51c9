use Rattle.std.proofs.Common.{◌≡◌, [], ◌∷◌}
use Rattle.style_cascade.specs.StyledTrees.{AreStylesOf, styled_tree}
use Rattle.focus_keys.specs.Views.{is_access_target}
use Rattle.focus_keys.proofs.TargetLemmas.{NoneBefore}
use Rattle.focus_keys.proofs.targets.access_target.Given as goal

abbrev pub invariant-nodes : goal.invariant-nodes
invariant-nodes l = record {
  none : NoneBefore (is_access_target (styled_tree l.tree l.fn.styles l.focus) (l.letter ∷ [])) l.number;
  sources : l.styles.sources ≡ l.fn.styles.sources;
  right : AreStylesOf l.tree l.focus l.styles;
}
