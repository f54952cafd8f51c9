-- A device of the proofs: what the store rests on of a carousel. (This project's own.)
use Rattle.std.specs.Prelude.{◌≡◌, ℕ, true, List, [], ◌∷◌, ◌++◌, Some, None, is_some}
use Rattle.carousel_blocks.specs.declared.changes.Change.{Change}
use Rattle.carousel_blocks.specs.Message.{Message}
use Rattle.carousel_blocks.specs.Held.{bytes_held}
use Rattle.carousel_blocks.specs.Carousel.{CarouselState, StandsFor}
use Rattle.carousel_blocks.specs.Changes.{change_at, changes}
use Rattle.carousel_blocks.specs.Staging.{IsSameModule, whole_with}
use Rattle.module_store.specs.Resources.{info_in_force}

-- the carousel stands for messages that came
abbrev pub StandsForSome : CarouselState → Type 0
StandsForSome carousel = ∥ ((messages : List Message) × StandsFor carousel messages) ∥₁

-- what one more message makes of a carousel's modules
pub record MessageLaws : Type 0 where
  pub none : (messages : List Message) → changes messages messages ≡ []
  pub same : (messages : List Message) (message : Message) (number : ℕ) → change_at messages (messages ++ message ∷ []) number ≡ None → IsSameModule messages (messages ++ message ∷ []) number
  pub new : (messages : List Message) (message : Message) (number : ℕ) (change : Change) (bytes : List ℕ) → change_at messages (messages ++ message ∷ []) number ≡ Some change → is_some change.status ≡ true
      → bytes_held (messages ++ message ∷ []) number ≡ Some bytes → bytes ≡ []
  pub whole : (messages : List Message) (message : Message) (number : ℕ) (change : Change) → change_at messages (messages ++ message ∷ []) number ≡ Some change → change.status ≡ None
      → (bytes : List ℕ) × (bytes_held (messages ++ message ∷ []) number ≡ Some bytes) × (whole_with messages (Some message) ≡ Some (number, bytes))
  pub info : (messages : List Message) (message : Message) (number : ℕ) (change : Change) → change_at messages (messages ++ message ∷ []) number ≡ Some change → change.status ≡ None
      → info_in_force (messages ++ message ∷ []) number ≡ info_in_force messages number
  pub before : (messages : List Message) (message : Message) (number : ℕ) (change : Change) → change_at messages (messages ++ message ∷ []) number ≡ Some change → change.status ≡ None → bytes_held messages number ≡ None
  pub change : (messages : List Message) (message : Message) (number : ℕ) (bytes : List ℕ) → whole_with messages (Some message) ≡ Some (number, bytes)
      → (change : Change) × (change_at messages (messages ++ message ∷ []) number ≡ Some change) × (change.status ≡ None)
