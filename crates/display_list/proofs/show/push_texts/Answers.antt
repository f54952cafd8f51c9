use Rattle.std.proofs.Common.{◌≡◌, ◌++◌, ℕ, ap, ◌∙◌, arith}
use Rattle.display_list.specs.Show.{held_lines}
use Rattle.display_list.specs.devices.Views.{shown_of}
use Rattle.display_list.proofs.TextLemmas.{HasPaths-law, lines_below, lines_below-start, lines_below-more, lines_below-end}
use Rattle.display_list.proofs.show.push_texts.Goals as goal

pub inside-init : goal.inside-init
inside-init c =
    let shown = shown_of c.args.scene.now in
    let law = HasPaths-law shown.items c.requires.scene.tree c.law_of_paths.ensures.step c.law_of_paths.ensures.before c.law_of_parents.ensures.before in
    lines_below-start shown c.args.node.0 c.subtree_end-end.result c.args.out.now.items law c.subtree_end-end.ensures.end c.requires.node

pub inside-preserved : goal.inside-preserved
inside-preserved c = lines_below-more (held_lines (shown_of c.args.scene.now) c.args.node.0) c.inside.number c.args.out.now.items c.inside.out.items c.push_held.new.out.items c.inside.invariant (c.in_ok-push_held.ensures {u = tt}).ok

pub returns-clause-ok : goal.returns-clause-ok
returns-clause-ok c =
    let shown = shown_of c.args.scene.now in
    let law = HasPaths-law shown.items c.requires.scene.tree c.law_of_paths.ensures.step c.law_of_paths.ensures.before c.law_of_parents.ensures.before in
    let all : c.inside.number ≡ c.subtree_end-end.result = omega (arith, c.subtree_end-end.ensures.behind) in
    lines_below-end shown c.args.node.0 c.subtree_end-end.result c.args.out.now.items c.inside.out.items law c.subtree_end-end.ensures.end c.subtree_end-end.ensures.within
    (c.inside.invariant ∙ ap (λ (n : ℕ). c.args.out.now.items ++ lines_below (held_lines shown c.args.node.0) n) all)
