-- The number of the delivery that brought a module.
use Rattle.std.proofs.Common.{◌≡◌, ◌∙◌, ℕ, ◌<◌, ◌^◌, List, Option, Some, None, cond, sym, ap, arith}
use Rattle.std.specs.Prelude.{is_some, option_map, option_and_then}
use Rattle.carousel_blocks.specs.Message.{Message}
use Rattle.carousel_blocks.specs.Held.{bytes_held}
use Rattle.carousel_blocks.specs.Changes.{number_bound}
use Rattle.carousel_blocks.specs.Carousel as of_carousel
use Rattle.module_store.specs.Store.{Followed, Stored, held_in, last_place, number_at, number_of}
use Rattle.module_store.specs.Standing.{ComponentState, delivery_in, StoreState, StandsFor, component_with}
use Rattle.module_store.proofs.FeedLaws.{has_followed}

pub two_bytes : (number : ℕ) → number < 2 ^ 16 → number < number_bound
unfolding number_bound
two_bytes number low = omega arith

pub number_is : (state : StoreState) (tag number : ℕ) (slot : ComponentState) (bytes : List ℕ) → component_with state.components tag ≡ Some slot → number < 2 ^ 16
    → ((messages : List Message) → of_carousel.StandsFor slot.carousel messages → Some bytes ≡ bytes_held messages number)
    → (stored : Stored) → StandsFor state stored → Some (delivery_in slot.deliveries number) ≡ number_of stored tag number
number_is state tag number slot bytes looked low holds stored stands =
    let f = has_followed state.components state.count stored stands tag slot looked in
    let here = holds f.0.messages f.3.carousel in
    let in_store : held_in stored tag number ≡ Some bytes = ap (λ (o : Option Followed). option_and_then (λ messages. bytes_held messages number) (option_map (λ c. c.messages) o)) f.1 ∙ sym here in
    let found = f.3.numbers number (two_bytes number low) (ap (λ (o : Option (List ℕ)). is_some o) (sym here)) in
    sym (ap (λ (o : Option (List ℕ)). cond (is_some o) (option_map number_at (last_place tag number stored.deliveries)) None) in_store
    ∙ ap (λ t. option_map number_at (last_place t number stored.deliveries)) (sym f.2) ∙ found)
