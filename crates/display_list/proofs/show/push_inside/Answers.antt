use Rattle.std.proofs.Common.{◌≡◌, ◌++◌, List, ℕ, OnOk, subst, sym, ◌∙◌}
use Rattle.display_list.specs.devices.Views.{shown_of}
use Rattle.display_list.proofs.ShowLemmas.{inside_lines-input, inside_lines-object, inside_lines-texts}
use Rattle.display_list.proofs.show.push_inside.Goals as goal

pub returns-then-is_input-clause-ok : goal.returns-then-is_input-clause-ok
returns-then-is_input-clause-ok c =
    let lines = inside_lines-input (shown_of c.args.scene.now) c.args.node.0 (sym c.is_input.ensures ∙ c.if-is_input.true) in
    subst (λ (l : List ℕ). OnOk c.push_input.result (c.push_input.new.out.items ≡ c.args.out.now.items ++ l)) lines c.push_input.ensures.ok

pub returns-then-is_object-clause-ok : goal.returns-then-is_object-clause-ok
returns-then-is_object-clause-ok c =
    let lines = inside_lines-object (shown_of c.args.scene.now) c.args.node.0 (sym c.is_input.ensures ∙ c.if-is_input.false) (sym c.is_object.ensures ∙ c.if-is_object.true) in
    subst (λ (l : List ℕ). OnOk c.push_object.result (c.push_object.new.out.items ≡ c.args.out.now.items ++ l)) lines c.push_object.ensures.ok

pub returns-else-is_object-clause-ok : goal.returns-else-is_object-clause-ok
returns-else-is_object-clause-ok c =
    let lines = inside_lines-texts (shown_of c.args.scene.now) c.args.node.0 (sym c.is_input.ensures ∙ c.if-is_input.false) (sym c.is_object.ensures ∙ c.if-is_object.false) in
    subst (λ (l : List ℕ). OnOk c.push_texts.result (c.push_texts.new.out.items ≡ c.args.out.now.items ++ l)) lines c.push_texts.ensures.ok
