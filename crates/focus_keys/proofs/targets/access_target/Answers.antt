use Rattle.std.proofs.Common.{◌≡◌, ℕ, [], ◌∷◌, length, ap, subst, sym, ◌∙◌, arith}
use Rattle.style_cascade.specs.Cascade.{Sources}
use Rattle.style_cascade.specs.StyledTrees.{styled_tree}
use Rattle.focus_keys.specs.Views.{is_access_target}
use Rattle.focus_keys.proofs.TargetLemmas.{NoneBefore, access_target_of-found, access_target_of-none}
use Rattle.focus_keys.proofs.targets.access_target.Goals as goal

pub returns-then-is_access_target-clause-target : goal.returns-then-is_access_target-clause-target
returns-then-is_access_target-clause-target c =
    let items = c.args.tree.now in
    let focus = c.args.focus.now in
    let letter = c.args.letter ∷ [] in
    let here = ap (λ (s : Sources). is_access_target (record { items = items; sources = s; focus = focus }) letter c.nodes.number) (sym c.nodes.invariant.sources) ∙ sym c.is_access_target.ensures.target ∙ c.if-is_access_target.true in
    access_target_of-found (styled_tree items c.args.styles.now focus) letter c.nodes.number (omega arith) c.nodes.invariant.none here

pub returns-clause-target : goal.returns-clause-target
returns-clause-target c =
    let items = c.args.tree.now in
    let tree = styled_tree items c.args.styles.now c.args.focus.now in
    let letter = c.args.letter ∷ [] in
    let test = is_access_target tree letter in
    let all : c.nodes.number ≡ length items = omega arith in
    access_target_of-none tree letter (subst (λ (n : ℕ). NoneBefore test n) all c.nodes.invariant.none)
