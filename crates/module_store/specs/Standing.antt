-- For which components, messages and deliveries a store stands. (This project's own.)
use Rattle.std.specs.Prelude.{◌≡◌, ◌<◌, ◌==◌, ℕ, nat_eq, Bool, true, List, length, find, Option, Some, is_some, option_map, unwrap_or}
use Rattle.std.specs.Map.{lookup}
use Rattle.carousel_blocks.specs.Changes.{number_bound}
use Rattle.carousel_blocks.specs.Held.{bytes_held}
use Rattle.carousel_blocks.specs.Carousel as of_carousel
use Rattle.module_store.specs.Store.{Followed, Stored, component_in, last_place, number_at}

-- What a store has of a component: its tag and its PID, what its carousel keeps, and the number of the last delivery of
-- each module, with the module's number.
pub record ComponentState : Type 0 where
  pub tag : ℕ
  pub pid : ℕ
  pub carousel : of_carousel.CarouselState
  pub deliveries : List (ℕ × ℕ)

-- the components, and the number of the last delivery of all
pub record StoreState : Type 0 where
  pub components : List ComponentState
  pub count : ℕ

abbrev pub has_tag : ℕ → ComponentState → Bool
has_tag tag component = component.tag == tag

-- the component with that tag
abbrev pub component_with : List ComponentState → ℕ → Option ComponentState
component_with components tag = find (has_tag tag) components

abbrev pub has_component : StoreState → ℕ → Bool
has_component state tag = is_some (component_with state.components tag)

-- the number of the last delivery of a module, 0 where it wasn't delivered
unfoldable pub delivery_in : List (ℕ × ℕ) → ℕ → ℕ
delivery_in deliveries number = unwrap_or (lookup (nat_eq number) deliveries) 0

-- What a store has of a component stands for its messages, and has the number of each module that is held.
pub record Follows (state : ComponentState) (component : Followed) (deliveries : List (ℕ × ℕ)) : Type 0 where
  pub pid : state.pid ≡ component.pid
  pub carousel : of_carousel.StandsFor state.carousel component.messages
  pub numbers : (number : ℕ) → number < number_bound → is_some (bytes_held component.messages number) ≡ true
      → option_map number_at (last_place component.tag number deliveries) ≡ Some (delivery_in state.deliveries number)

-- a store stands for components and deliveries where it has what follows from them
pub record StandsFor (state : StoreState) (stored : Stored) : Type 0 where
  pub count : state.count ≡ number_at (length stored.deliveries)
  pub tags : (tag : ℕ) → is_some (component_with state.components tag) ≡ is_some (component_in stored.components tag)
  pub components : (tag : ℕ) (its_state : ComponentState) (component : Followed) → component_with state.components tag ≡ Some its_state
      → component_in stored.components tag ≡ Some component → Follows its_state component stored.deliveries

-- a fact for each list of components and deliveries for which the store stands
abbrev pub ForStored : StoreState → (Stored → Type 0) → Type 0
ForStored state P = (stored : Stored) → StandsFor state stored → P stored
