use Rattle.std.proofs.Common.{◌≡◌, ℕ, length, to_z, of_z, ap, subst, sym, ◌∙◌, arith}
use Rattle.std.specs.Int.{w32}
use Rattle.std.proofs.lemmas.Int.{to_z-of_z}
use Rattle.style_cascade.specs.Cascade.{Sources}
use Rattle.style_cascade.specs.StyledTrees.{styled_tree}
use Rattle.focus_keys.specs.Targets.{nav_target_of}
use Rattle.focus_keys.specs.Views.{is_nav_target}
use Rattle.focus_keys.proofs.TargetLemmas.{NoneBefore, nav_target_of-found, nav_target_of-none}
use Rattle.focus_keys.proofs.targets.nav_target.Goals as goal

pub returns-then-is_nav_target-clause-target : goal.returns-then-is_nav_target-clause-target
returns-then-is_nav_target-clause-target c =
    let items = c.args.tree.now in
    let focus = c.args.focus.now in
    let tree = styled_tree items c.args.styles.now focus in
    let number = to_z w32 (of_z w32 c.args.number) in
    let here = ap (λ (s : Sources). is_nav_target (record { items = items; sources = s; focus = focus }) number c.nodes.place) (sym c.nodes.invariant.sources) ∙ sym c.is_nav_target.ensures.target ∙ c.if-is_nav_target.true in
    nav_target_of-found tree number c.nodes.place (omega arith) c.nodes.invariant.none here
    ∙ ap (nav_target_of tree) (to_z-of_z w32 c.args.number c.ranges.number)

pub returns-clause-target : goal.returns-clause-target
returns-clause-target c =
    let items = c.args.tree.now in
    let tree = styled_tree items c.args.styles.now c.args.focus.now in
    let number = to_z w32 (of_z w32 c.args.number) in
    let all : c.nodes.place ≡ length items = omega arith in
    nav_target_of-none tree number (subst (λ (n : ℕ). NoneBefore (is_nav_target tree number) n) all c.nodes.invariant.none)
    ∙ ap (nav_target_of tree) (to_z-of_z w32 c.args.number c.ranges.number)
