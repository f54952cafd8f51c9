use Rattle.std.proofs.Common.{◌≡◌, ◌∙◌, ℕ, position, Option, Some, None, refl, ap}
use Rattle.std.specs.Prelude.{is_some, option_map}
use Rattle.module_store.specs.Standing.{StoreState, has_tag, has_component}
use Rattle.module_store.specs.Store.{Followed, component_in}
use Rattle.module_store.proofs.FindLaws.{is_some-position}
use Rattle.module_store.proofs.store.Store.has_component.Goals as goal

has : (c : goal.After-is_some) → c.is_some.result ≡ has_component c.args.self.now c.args.component
has c =
    c.is_some.ensures ∙ ap (λ (o : Option ℕ). is_some o) (c.place_of.ensures ∙ ap (λ l. position (has_tag c.args.component) l) c.deref.ensures.value)
    ∙ is_some-position (has_tag c.args.component) c.self.inside.slots.items
    ∙ ap (λ (s : StoreState). has_component s c.args.component) c.self.view_is

with_messages : (o : Option Followed) → is_some o ≡ is_some (option_map (λ f. f.messages) o)
with_messages None = refl
with_messages (Some f) = refl

pub returns-clause-has : goal.returns-clause-has
returns-clause-has c = has c

pub returns-clause-stands : goal.returns-clause-stands
returns-clause-stands c = λ stored stands.
    has c ∙ stands.tags c.args.component ∙ with_messages (component_in stored.components c.args.component)
