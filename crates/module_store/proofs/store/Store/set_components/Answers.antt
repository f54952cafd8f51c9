use Rattle.std.proofs.Common.{◌≡◌, ◌∙◌, ℕ, ◌≤◌, ◌++◌, Option, Some, None, length, refl, ap, sym, subst}
use Rattle.std.specs.Prelude.{AllPairs, is_some, filter, option_map, find}
use Rattle.psi_tables.specs.declared.components.Component.{Component}
use Rattle.psi_tables.specs.Components.{AreApart}
use Rattle.module_store.specs.Store.{with_map, gone_by}
use Rattle.module_store.specs.Standing.{StoreState, StandsFor, component_with}
use Rattle.module_store.specs.Slots.{AreDistinct, AreAdded, kept_of}
use Rattle.module_store.proofs.MapLaws.{is_tagged, one_of_each, stands_mapped, still_distinct, has_components}
use Rattle.module_store.proofs.store.Store.set_components.Goals as goal

-- at most one component of the map has each tag
each : (c : goal.After-drop-added-2) (tag : ℕ) → length (filter (is_tagged tag) c.args.services.now.map) ≤ 1
each c = one_of_each c.args.services.now.map (subst (λ l. AllPairs AreApart l) c.components-components.ensures.map c.components-components.ensures.apart)

added : (c : goal.After-drop-added-2) → AreAdded c.self.inside.slots.items c.args.services.now.map c.in_ok-added.added.items
added c =
    subst (λ l. AreAdded l c.args.services.now.map c.in_ok-added.added.items) c.deref.ensures.value
    (subst (λ l. AreAdded c.deref.result.now l c.in_ok-added.added.items) c.components-components.ensures.map c.in_ok-added.ensures)

kept : (c : goal.After-drop-added-2) → c.keep.new.slots.items ≡ kept_of c.args.services.now.map (c.self.inside.slots.items ++ c.in_ok-added.added.items)
kept c = c.keep.ensures ∙ ap (λ l. kept_of l c.append.new.self.items) c.components-components.ensures.map ∙ ap (λ l. kept_of c.args.services.now.map l) c.in_ok-append.ensures.items

with_pid : (o : Option Component) → is_some o ≡ is_some (option_map (λ component. component.pid) o)
with_pid None = refl
with_pid (Some component) = refl

pub invariant_of-self-2 : goal.invariant_of-self-2
invariant_of-self-2 c =
    subst (λ l. AreDistinct l) (sym (kept c)) (still_distinct c.args.services.now.map (each c) c.self.inside.slots.items c.in_ok-added.added.items c.self.invariant (added c))

pub returns-clause-stands : goal.returns-clause-stands
returns-clause-stands c = λ stored stands.
    subst (λ l. StandsFor (record { components = l; count = c.self.inside.count }) (with_map c.args.services.now.map stored)) (sym (kept c))
    (stands_mapped c.args.services.now.map (each c) c.self.inside.slots.items c.in_ok-added.added.items c.self.invariant (added c) c.self.inside.count stored
    (subst (λ (s : StoreState). StandsFor s stored) (sym c.self.view_is) stands))

pub returns-clause-gone : goal.returns-clause-gone
returns-clause-gone c = λ stored stands.
    c.in_ok-gone.ensures stored stands ∙ ap (λ l. gone_by l stored) c.components-components.ensures.map

pub returns-clause-components : goal.returns-clause-components
returns-clause-components c = λ tag.
    ap (λ l. is_some (component_with l tag)) (kept c)
    ∙ has_components c.args.services.now.map (each c) c.self.inside.slots.items c.in_ok-added.added.items c.self.invariant (added c) tag
    ∙ with_pid (find (is_tagged tag) c.args.services.now.map)
