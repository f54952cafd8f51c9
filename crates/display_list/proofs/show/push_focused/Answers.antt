use Rattle.std.proofs.Common.{◌≡◌, ◌++◌, List, ℕ, OnOk, subst, sym, ap, ◌∙◌, append-nil}
use Rattle.display_list.specs.devices.Views.{shown_of}
use Rattle.display_list.proofs.ShowLemmas.{focus_lines_of-hidden, focus_lines_of-visible}
use Rattle.display_list.proofs.show.push_focused.Goals as goal

pub returns-then-style-clause-ok : goal.returns-then-style-clause-ok
returns-then-style-clause-ok c =
    let line = focus_lines_of-visible (shown_of c.args.scene.now) c.args.node.0 c.place.result c.style.result c.place.ensures c.style.ensures c.if-style.true in
    subst (λ (l : List ℕ). OnOk c.push_focus_line.result (c.push_focus_line.new.out.items ≡ c.args.out.now.items ++ l)) line c.push_focus_line.ensures.ok

pub returns-else-style-clause-ok : goal.returns-else-style-clause-ok
returns-else-style-clause-ok c =
    let line = focus_lines_of-hidden (shown_of c.args.scene.now) c.args.node.0 c.style.result c.style.ensures c.if-style.false in
    sym (append-nil c.args.out.now.items) ∙ ap (λ (l : List ℕ). c.args.out.now.items ++ l) line
