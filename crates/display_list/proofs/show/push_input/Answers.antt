use Rattle.std.proofs.Common.{◌≡◌, ◌++◌, List, ℕ, OnOk, subst, sym, ap, ◌∙◌, append-nil}
use Rattle.display_list.specs.devices.Views.{shown_of}
use Rattle.display_list.proofs.ShowLemmas.{input_lines-none, input_lines-some}
use Rattle.display_list.proofs.show.push_input.Goals as goal

pub returns-in-Some-clause-ok : goal.returns-in-Some-clause-ok
returns-in-Some-clause-ok c =
    let scene = c.args.scene.now in
    let line = input_lines-some (shown_of scene) c.args.node.0 c.place.result c.style.result scene.names.value c.in-Some.value.now c.place.ensures c.style.ensures c.requires.scene.names.value (c.in-Some.ensures {u = tt}) in
    subst (λ (l : List ℕ). OnOk c.push_text_line.result (c.push_text_line.new.out.items ≡ c.args.out.now.items ++ l)) line c.push_text_line.ensures.ok

pub returns-in-None-clause-ok : goal.returns-in-None-clause-ok
returns-in-None-clause-ok c =
    let scene = c.args.scene.now in
    let line = input_lines-none (shown_of scene) c.args.node.0 scene.names.value c.requires.scene.names.value (c.in-None.ensures {u = tt}) in
    sym (append-nil c.args.out.now.items) ∙ ap (λ (l : List ℕ). c.args.out.now.items ++ l) line
