use Rattle.std.proofs.Common.{◌≡◌, ◌∙◌, ℕ, eqb, false, position, Option, Some, None, Result, List, Ok, Err, get_or, set, refl, ap, sym}
use Rattle.std.specs.Prelude.{is_some, option_map, OnErr}
use Rattle.module_store.specs.Store.{Followed, Stored, component_in, changes_behind}
use Rattle.module_store.specs.Standing.{ComponentState, StoreState, StandsFor, has_tag, component_with}
use Rattle.module_store.specs.Slots.{AreDistinct}
use Rattle.module_store.proofs.FindLaws.{is_some-position, length-filter-set}
use Rattle.module_store.proofs.FeedLaws.{absent_section, keeps_tag, same_components, stands_taken, stands_kept, changes_taken}
use Rattle.module_store.proofs.store.Store.feed.Goals as goal

-- the component isn't in the map
absent : (c : goal.After-new) → (stored : Stored) → StandsFor c.args.self.now stored → component_in stored.components c.args.component ≡ None
absent c stored stands = none (component_in stored.components c.args.component) (sym (stands.tags c.args.component) ∙ not_there)
  where
    none : (o : Option Followed) → is_some o ≡ false → o ≡ None
    none None e = refl
    none (Some f) e = absurd cc

    not_there : is_some (component_with c.args.self.now.components c.args.component) ≡ false
    not_there =
        ap (λ (s : StoreState). is_some (component_with s.components c.args.component)) (sym c.self.view_is) ∙ sym (is_some-position (has_tag c.args.component) c.self.inside.slots.items)
        ∙ ap (λ (o : Option ℕ). is_some o) (ap (λ l. position (has_tag c.args.component) l) (sym c.deref.ensures.value) ∙ sym c.place_of.ensures ∙ c.in_default.is)

pub returns-in_default-clause-stands : goal.returns-in_default-clause-stands
returns-in_default-clause-stands c = λ stored stands. rw (absent_section c.args.component c.args.section.now stored (absent c stored stands)) stands

pub returns-in_default-clause-changes : goal.returns-in_default-clause-changes
returns-in_default-clause-changes c = λ stored stands.
    c.new.ensures.items ∙ sym (ap (λ (o : Option Followed). changes_behind (option_map (λ f. f.messages) o) c.args.section.now) (absent c stored stands))

-- a slot in place of one with the same tag
still_distinct : (slots : List ComponentState) (place : ℕ) (slot new : ComponentState) → AreDistinct slots → new.tag ≡ slot.tag → slot ≡ get_or slots place slot → AreDistinct (set slots place new)
still_distinct slots place slot new distinct tagged is tag =
    let same = ap (λ u. eqb u tag) tagged ∙ ap (λ (s : ComponentState). has_tag tag s) is in
    rw (length-filter-set (has_tag tag) slots place new slot same) (distinct tag)

on_err : {A E : Type 0} (result : Result A E) (P : Type 0) → P → OnErr result P
on_err (Ok a) P h = tt
on_err (Err e) P h = h

pub invariant_of-self : goal.invariant_of-self
invariant_of-self c =
    still_distinct c.self.inside.slots.items c.in-Some.place c.index_mut-slot.result.now c.take.new.self c.self.invariant c.in_err-changes.ensures.same.tag c.index_mut-slot.ensures.value

pub invariant_of-self-2 : goal.invariant_of-self-2
invariant_of-self-2 c =
    still_distinct c.self.inside.slots.items c.in-Some.place c.index_mut-slot.result.now c.take.new.self c.self.invariant
    (keeps_tag c.take.result c.index_mut-slot.result.now c.take.new.self c.self.inside.count c.take.new.count c.args.section.now c.take.ensures.taken c.take.ensures.same) c.index_mut-slot.ensures.value

pub returns-in_err-changes-clause-before : goal.returns-in_err-changes-clause-before
returns-in_err-changes-clause-before c =
    let place_is = sym (c.place_of.ensures ∙ ap (λ l. position (has_tag c.args.component) l) c.deref.ensures.value) ∙ c.in-Some.is in
    on_err c.from_residual.result _
    (rw (← c.self.view_is) (λ stored stands. stands_kept c.self.inside.slots.items c.self.inside.count c.take.new.count c.in-Some.place c.args.component
    c.index_mut-slot.result.now c.take.new.self stored place_is c.index_mut-slot.ensures.value c.in_err-changes.ensures.same stands))

pub returns-in_err-changes-clause-components : goal.returns-in_err-changes-clause-components
returns-in_err-changes-clause-components c = λ tag.
    let place_is = sym (c.place_of.ensures ∙ ap (λ l. position (has_tag c.args.component) l) c.deref.ensures.value) ∙ c.in-Some.is in
    rw (← c.self.view_is) (same_components c.self.inside.slots.items c.in-Some.place c.args.component c.index_mut-slot.result.now c.take.new.self place_is c.index_mut-slot.ensures.value c.in_err-changes.ensures.same.tag tag)

pub returns-clause-stands : goal.returns-clause-stands
returns-clause-stands c =
    let place_is = sym (c.place_of.ensures ∙ ap (λ l. position (has_tag c.args.component) l) c.deref.ensures.value) ∙ c.in-Some.is in
    rw (← c.self.view_is) (λ stored stands. stands_taken c.self.inside.slots.items c.self.inside.count c.take.new.count c.in-Some.place c.args.component
    c.index_mut-slot.result.now c.take.new.self c.args.section.now c.in_ok-changes.changes.items stored place_is c.index_mut-slot.ensures.value c.in_ok-changes.ensures.taken stands)

pub returns-clause-changes : goal.returns-clause-changes
returns-clause-changes c =
    let place_is = sym (c.place_of.ensures ∙ ap (λ l. position (has_tag c.args.component) l) c.deref.ensures.value) ∙ c.in-Some.is in
    rw (← c.self.view_is) (λ stored stands. changes_taken c.self.inside.slots.items c.self.inside.count c.take.new.count c.in-Some.place c.args.component
    c.index_mut-slot.result.now c.take.new.self c.args.section.now c.in_ok-changes.changes.items stored place_is c.index_mut-slot.ensures.value c.in_ok-changes.ensures.taken stands)

pub returns-clause-components : goal.returns-clause-components
returns-clause-components c = λ tag.
    let place_is = sym (c.place_of.ensures ∙ ap (λ l. position (has_tag c.args.component) l) c.deref.ensures.value) ∙ c.in-Some.is in
    rw (← c.self.view_is) (same_components c.self.inside.slots.items c.in-Some.place c.args.component c.index_mut-slot.result.now c.take.new.self place_is c.index_mut-slot.ensures.value c.in_ok-changes.ensures.taken.tag tag)
