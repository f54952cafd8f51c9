-- A device of the proofs: how what is kept of a component changes with a section, and of all with the component map.
use Rattle.std.specs.Prelude.{◌≡◌, ◌≤◌, ℕ, ◌==◌, Bool, not, ◌&&◌, List, [], ◌∷◌, ◌++◌, All, length, map, filter}
use Rattle.std.specs.List.{list_any}
use Rattle.psi_tables.specs.declared.components.Component.{Component}
use Rattle.carousel_blocks.specs.Carousel as of_carousel
use Rattle.carousel_blocks.specs.declared.changes.Change.{Change}
use Rattle.carousel_blocks.specs.Message.{Message, messages_of}
use Rattle.carousel_blocks.specs.Changes.{changes}
use Rattle.multipart_entities.specs.declared.parts.Part.{Part}
use Rattle.module_store.specs.Store.{deliveries_of, is_kept}
use Rattle.module_store.specs.Entities.{KeepsParts}
use Rattle.module_store.specs.Noted.{noted, noted_count}
use Rattle.module_store.specs.Standing.{ComponentState, delivery_in, has_tag}

-- The carousel stands for messages that came, and the parts of each entity that is held are kept.
pub record IsSound (carousel : of_carousel.CarouselState) (entities : List (ℕ × List Part)) : Type 0 where
  pub messages : List Message
  pub stands : of_carousel.StandsFor carousel messages
  pub parts : KeepsParts entities messages

-- the component that is followed
abbrev pub component_of : ComponentState → Component
component_of slot = record { tag = slot.tag; pid = slot.pid }

-- no message came for it yet
abbrev pub IsEmpty : ComponentState → Type 0
IsEmpty slot = of_carousel.StandsFor slot.carousel []

pub record IsFresh (component : Component) (slot : ComponentState) : Type 0 where
  pub component_is : component_of slot ≡ component
  pub empty : IsEmpty slot

-- the component is followed on the same PID
abbrev pub is_followed : List ComponentState → Component → Bool
is_followed slots component = list_any (λ slot. (slot.tag == component.tag) && (slot.pid == component.pid)) slots

-- those that aren't followed on the same PID, without messages
pub record AreAdded (slots : List ComponentState) (components : List Component) (added : List ComponentState) : Type 0 where
  pub are : map component_of added ≡ filter (λ component. not (is_followed slots component)) components
  pub empty : All IsEmpty added

-- those that the map has on the same PID
abbrev pub kept_of : List Component → List ComponentState → List ComponentState
kept_of components slots = filter (λ slot. is_kept components slot.tag slot.pid) slots

-- at most one has each tag
abbrev pub AreDistinct : List ComponentState → Type 0
AreDistinct slots = (tag : ℕ) → length (filter (has_tag tag) slots) ≤ 1

-- ---- a section

-- The carousel takes the section, and the modules that it delivers get the next numbers.
pub record TakesSection (old new : ComponentState) (count new_count : ℕ) (section : List ℕ) (found : List Change) : Type 0 where
  pub tag : new.tag ≡ old.tag
  pub pid : new.pid ≡ old.pid
  pub carousel : (messages : List Message) → of_carousel.StandsFor old.carousel messages
      → of_carousel.StandsFor new.carousel (messages ++ messages_of (section ∷ []))
  pub changes_are : (messages : List Message) → of_carousel.StandsFor old.carousel messages
      → found ≡ changes messages (messages ++ messages_of (section ∷ []))
  pub numbers : (number : ℕ) → delivery_in new.deliveries number ≡ noted count (deliveries_of found) (delivery_in old.deliveries) number
  pub count_is : new_count ≡ noted_count count (deliveries_of found)

-- nothing came
pub record KeepsSame (old new : ComponentState) (count new_count : ℕ) : Type 0 where
  pub tag : new.tag ≡ old.tag
  pub pid : new.pid ≡ old.pid
  pub carousel : (messages : List Message) → of_carousel.StandsFor old.carousel messages → of_carousel.StandsFor new.carousel messages
  pub deliveries : (number : ℕ) → delivery_in new.deliveries number ≡ delivery_in old.deliveries number
  pub count_is : new_count ≡ count
