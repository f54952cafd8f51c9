-- For which messages a carousel stands, and what it answers. (This project's own.)
use Rattle.std.specs.Prelude.{◌≡◌, ℕ, nat_eq, Bool, not, ◌||◌, if◌then◌else◌, List, [], ◌∷◌, ◌++◌, Option, None, is_some, option_map, option_and_then}
use Rattle.std.specs.Map.{lookup}
use Rattle.dsmcc_messages.specs.Ddb.{DataBlock}
use Rattle.dsmcc_messages.specs.declared.entry.Entry.{Entry}
use Rattle.carousel_blocks.specs.declared.standing.SkipCause.{SkipCause}
use Rattle.carousel_blocks.specs.declared.put.Put.{Put}
use Rattle.carousel_blocks.specs.declared.put.Put.TheVariants as puts
use Rattle.carousel_blocks.specs.Message.{Message, Data}
use Rattle.carousel_blocks.specs.InForce.{in_force, standing_of}
use Rattle.carousel_blocks.specs.Held.{Kept, kept_module, bytes_held, counting_blocks, first_of, is_asked_by}

-- the transactionId and the downloadId of the DII in force, and what is kept of each of its modules, with the module's number
pub record CarouselState : Type 0 where
  pub transaction : Option ℕ
  pub download : Option ℕ
  pub modules : List (ℕ × Kept)

abbrev pub kept_in : CarouselState → ℕ → Option Kept
kept_in c number = lookup (nat_eq number) c.modules

-- a carousel stands for the messages where it keeps what is to be kept of them
pub record StandsFor (c : CarouselState) (messages : List Message) : Type 0 where
  pub transaction : c.transaction ≡ option_map (λ dii. dii.transaction) (in_force messages)
  pub download : c.download ≡ option_map (λ dii. dii.download) (in_force messages)
  pub modules : (number : ℕ) → kept_in c number ≡ kept_module messages number

-- a fact for each list of messages for which the carousel stands
abbrev pub ForMessages : CarouselState → (List Message → Type 0) → Type 0
ForMessages c P = (messages : List Message) → StandsFor c messages → P messages

-- a carousel keeps the same as before
pub record KeepsSame (old new : CarouselState) : Type 0 where
  pub transaction : new.transaction ≡ old.transaction
  pub download : new.download ≡ old.download
  pub modules : (number : ℕ) → kept_in new number ≡ kept_in old number

-- the entry of a module in the DII in force, and why it is skipped, where it is
abbrev pub entry_in_force : List Message → ℕ → Option Entry
entry_in_force messages number = option_map (λ s. s.entry) (standing_of (in_force messages) number)

abbrev pub skip_in_force : List Message → ℕ → Option SkipCause
skip_in_force messages number = option_and_then (λ s. s.skip) (standing_of (in_force messages) number)

-- a block with this number counts already
abbrev pub has_block : List Message → DataBlock → Bool
has_block messages block = is_some (first_of (counting_blocks None block.module messages) block.number)

-- What the next block is: ignored where no unskipped entry asks for it or it is held; else kept, and it completes its
-- module where this is held with it.
unfoldable pub put_after : List Message → DataBlock → Put
put_after messages block =
    if not (is_asked_by (standing_of (in_force messages) block.module) block) || has_block messages block then puts.Ignored
    else (if is_some (bytes_held (messages ++ Data block ∷ []) block.module) then puts.Completed block.module else puts.Kept)
