use Rattle.std.proofs.Common.{◌≡◌, ◌≤◌, ◌-◌, ◌^◌, Some, None, ap, sym, subst, ◌∙◌}
use Rattle.std.specs.Prelude.{IsTrue}
use Rattle.style_reader.specs.Values.{fits}
use Rattle.style_reader.specs.declared.properties.StyleValue.{StyleValue}
use Rattle.style_cascade.specs.Cascade.{own_value, place}
use Rattle.style_cascade.specs.Keeping.{StylesState}
use Rattle.style_cascade.specs.States.{present_state}
use Rattle.style_cascade.specs.devices.Getting.{Gets}
use Rattle.style_cascade.specs.devices.Tables.{cell_of}
use Rattle.style_cascade.specs.declared.states.State.{State}
use Rattle.style_cascade.proofs.FittingLemmas.{initial-fits}
use Rattle.style_cascade.proofs.GetLemmas.{gets-above, gets-initial, gets-kept, gets-own}
use Rattle.style_cascade.proofs.KeptLemmas.{element-within, kept-own}
use Rattle.style_cascade.proofs.styles.Styles.+found.Goals as goal

pub returns-in-Some : goal.returns-in-Some
returns-in-Some t c =
    gets-kept c.args.tree.now (present_state c.args.focus.now) c.args.self.now c.args.node.0 c.args.state c.args.property c.in-Some.value c.requires.right (subst (λ (s : StylesState). s.worked ≤ 2 ^ 64 - 1) c.self.view_is c.self.invariant) (c.in-Some.ensures {u = tt}).fits
    (sym (ap (λ (s : StylesState). cell_of s.kept.values c.args.node.0 c.args.state c.args.property) c.self.view_is) ∙ sym (c.in-Some.ensures {u = tt}).value)

pub returns-in-Some-own : goal.returns-in-Some-own
returns-in-Some-own t c =
    let none : cell_of c.args.self.now.kept.values c.args.node.0 c.args.state c.args.property ≡ None = sym (ap (λ (s : StylesState). cell_of s.kept.values c.args.node.0 c.args.state c.args.property) c.self.view_is) ∙ sym (c.in_default.ensures {u = tt}).value in
    let own : own_value c.args.tree.now c.args.self.now.sources c.args.node.0 c.args.state c.args.property ≡ Some c.in-Some-own.value = sym ((c.in-Some-own.ensures {u = tt}).value ∙ kept-own c.args.tree.now (present_state c.args.focus.now) c.args.self.now c.args.node.0 c.args.state c.args.property c.requires.right (element-within c.args.tree.now c.args.node.0 c.requires.element)) in
    subst (λ (s : StylesState). Gets c.args.tree.now (present_state c.args.focus.now) c.args.self.now s (place c.args.node.0 c.args.state) c.args.property c.in-Some-own.value) (sym c.keep.ensures)
    (gets-own c.args.tree.now (present_state c.args.focus.now) c.args.self.now c.args.node.0 c.args.state c.args.property c.in-Some-own.value c.requires.right c.requires.element (subst (λ (s : StylesState). s.worked ≤ 2 ^ 64 - 1) c.self.view_is c.self.invariant) (c.in-Some-own.ensures {u = tt}).fits none own)

pub keep-requires-in_default-around-clause-fits : goal.keep-requires-in_default-around-clause-fits
keep-requires-in_default-around-clause-fits t c = subst (λ (v : StyleValue). IsTrue (fits c.args.property v)) (sym c.initial-value.ensures) (initial-fits c.args.property)

pub returns-in_default-around : goal.returns-in_default-around
returns-in_default-around t c =
    let none : cell_of c.args.self.now.kept.values c.args.node.0 c.args.state c.args.property ≡ None = sym (ap (λ (s : StylesState). cell_of s.kept.values c.args.node.0 c.args.state c.args.property) c.self.view_is) ∙ sym (c.in_default.ensures {u = tt}).value in
    let own : own_value c.args.tree.now c.args.self.now.sources c.args.node.0 c.args.state c.args.property ≡ None = sym ((c.in_default-own.ensures {u = tt}).value ∙ kept-own c.args.tree.now (present_state c.args.focus.now) c.args.self.now c.args.node.0 c.args.state c.args.property c.requires.right (element-within c.args.tree.now c.args.node.0 c.requires.element)) in
    subst (λ (s : StylesState). Gets c.args.tree.now (present_state c.args.focus.now) c.args.self.now s (place c.args.node.0 c.args.state) c.args.property c.initial-value.result) (sym c.keep-in_default-around.ensures)
    (gets-initial c.args.tree.now (present_state c.args.focus.now) c.args.self.now c.args.node.0 c.args.state c.args.property c.initial-value.result c.requires.right c.requires.element (subst (λ (s : StylesState). s.worked ≤ 2 ^ 64 - 1) c.self.view_is c.self.invariant) (subst (λ (v : StyleValue). IsTrue (fits c.args.property v)) (sym c.initial-value.ensures) (initial-fits c.args.property)) none own (sym (c.in_default-around.ensures {u = tt}).element) c.initial-value.ensures)

pub returns : goal.returns
returns t c =
    let none : cell_of c.args.self.now.kept.values c.args.node.0 c.args.state c.args.property ≡ None = sym (ap (λ (s : StylesState). cell_of s.kept.values c.args.node.0 c.args.state c.args.property) c.self.view_is) ∙ sym (c.in_default.ensures {u = tt}).value in
    let own : own_value c.args.tree.now c.args.self.now.sources c.args.node.0 c.args.state c.args.property ≡ None = sym ((c.in_default-own.ensures {u = tt}).value ∙ kept-own c.args.tree.now (present_state c.args.focus.now) c.args.self.now c.args.node.0 c.args.state c.args.property c.requires.right (element-within c.args.tree.now c.args.node.0 c.requires.element)) in
    let above : Gets c.args.tree.now (present_state c.args.focus.now) c.args.self.now c.found-value.new.self (place c.in-Some-around.up.0 (present_state c.args.focus.now c.in-Some-around.up.0)) c.args.property c.found-value.result =
    subst (λ (s : State). Gets c.args.tree.now (present_state c.args.focus.now) c.args.self.now c.found-value.new.self (place c.in-Some-around.up.0 s) c.args.property c.found-value.result) c.state_of.ensures c.found-value.ensures in
    subst (λ (s : StylesState). Gets c.args.tree.now (present_state c.args.focus.now) c.args.self.now s (place c.args.node.0 c.args.state) c.args.property c.found-value.result) (sym c.keep-2.ensures)
    (gets-above c.args.tree.now (present_state c.args.focus.now) c.args.self.now c.found-value.new.self c.args.node.0 c.in-Some-around.up.0 c.args.state c.args.property c.found-value.result c.requires.right c.requires.element none own (sym (c.in-Some-around.ensures {u = tt}).element) (c.in-Some-around.ensures {u = tt}).before.0 above)
