-- What the next block makes whole, before the carousel takes it. (This project's own.)
use Rattle.std.specs.Prelude.{◌≡◌, ℕ, List, [], ◌∷◌, ◌++◌, Option, Some, None, option_map}
use Rattle.dsmcc_messages.specs.Ddb.{DataBlock}
use Rattle.carousel_blocks.specs.declared.put.Put.{Put}
use Rattle.carousel_blocks.specs.declared.put.Put.TheVariants as puts
use Rattle.carousel_blocks.specs.Message.{Message, Data, message_of}
use Rattle.carousel_blocks.specs.Held.{bytes_held}
use Rattle.carousel_blocks.specs.Carousel.{entry_in_force, skip_in_force, put_after}

-- the module that the block completes, and the bytes that it has then
abbrev pub whole_by : List Message → DataBlock → Put → Option (ℕ × List ℕ)
whole_by messages block (puts.Completed number) = option_map (λ bytes. (number, bytes)) (bytes_held (messages ++ Data block ∷ []) number)
whole_by messages block _ = None

-- the module that a message completes by its block
abbrev pub whole_with : List Message → Option Message → Option (ℕ × List ℕ)
whole_with messages (Some (Data block)) = whole_by messages block (put_after messages block)
whole_with messages _ = None

-- the same of a section
unfoldable pub made_whole : List Message → List ℕ → Option (ℕ × List ℕ)
made_whole messages section = whole_with messages (message_of section)

-- The module is the same before and now: its entry's info, why it is skipped, and its bytes, where it is held.
pub record IsSameModule (before now : List Message) (number : ℕ) : Type 0 where
  pub info : option_map (λ entry. entry.info) (entry_in_force now number) ≡ option_map (λ entry. entry.info) (entry_in_force before number)
  pub skip : skip_in_force now number ≡ skip_in_force before number
  pub bytes : bytes_held now number ≡ bytes_held before number
