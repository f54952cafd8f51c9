use Rattle.std.proofs.Common.{◌≡◌, ◌++◌, List, ℕ, OnOk, subst, sym, ap, ◌∙◌, append-nil}
use Rattle.display_list.specs.Show.{hanging_lines}
use Rattle.display_list.specs.devices.Views.{shown_of}
use Rattle.display_list.specs.declared.places.Place.{Place}
use Rattle.display_list.proofs.TextLemmas.{held_lines-none, held_lines-other, held_lines-some}
use Rattle.display_list.proofs.show.push_held.Goals as goal

pub returns-then-not-is_held_by-clause-ok : goal.returns-then-not-is_held_by-clause-ok
returns-then-not-is_held_by-clause-ok c =
    let lines = held_lines-other (shown_of c.args.scene.now) c.args.holder.0 c.args.node.0 (sym c.is_held_by.ensures ∙ c.if-not-is_held_by.true) in
    sym (append-nil c.args.out.now.items) ∙ ap (λ (l : List ℕ). c.args.out.now.items ++ l) lines

pub returns-in-Some-clause-ok : goal.returns-in-Some-clause-ok
returns-in-Some-clause-ok c =
    let shown = shown_of c.args.scene.now in
    let held = held_lines-some shown c.args.holder.0 c.args.node.0 c.in-Some.up.0 (sym c.is_held_by.ensures ∙ c.if-not-is_held_by.false) (c.in-Some.ensures {u = tt}).parent in
    let lines = ap (λ (p : Place). hanging_lines shown p c.in-Some.up.0 c.args.node.0) c.place.ensures ∙ held in
    subst (λ (l : List ℕ). OnOk c.push_hanging.result (c.push_hanging.new.out.items ≡ c.args.out.now.items ++ l)) lines c.push_hanging.ensures.ok

pub returns-in-None-clause-ok : goal.returns-in-None-clause-ok
returns-in-None-clause-ok c =
    let lines = held_lines-none (shown_of c.args.scene.now) c.args.holder.0 c.args.node.0 (sym c.is_held_by.ensures ∙ c.if-not-is_held_by.false) (c.in-None.ensures {u = tt}).parent in
    sym (append-nil c.args.out.now.items) ∙ ap (λ (l : List ℕ). c.args.out.now.items ++ l) lines
