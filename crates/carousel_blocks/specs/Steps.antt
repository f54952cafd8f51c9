-- A device of the proofs: what one message makes of what a carousel keeps. (This project's own.)
use Rattle.std.specs.Prelude.{◌≡◌, ℕ, ◌==◌, Bool, false, ◌&&◌, if◌then◌else◌, List, find, slice_get, slice_set, Option, Some, None, is_some, option_map, option_and_then, Result, Ok, Err}
use Rattle.std.specs.List.{filter_map, range_with_len}
use Rattle.dsmcc_messages.specs.declared.dii.Dii.{Dii}
use Rattle.dsmcc_messages.specs.Ddb.{DataBlock}
use Rattle.carousel_blocks.specs.declared.put.Put.{Put}
use Rattle.carousel_blocks.specs.declared.put.Put.TheVariants as puts
use Rattle.carousel_blocks.specs.declared.standing.Standing.{Standing}
use Rattle.carousel_blocks.specs.declared.changes.Change.{Change}
use Rattle.carousel_blocks.specs.InForce.{is_of_module, standings}
use Rattle.carousel_blocks.specs.Held.{Kept, is_asked, same_standing, bytes_kept, joined_bytes}
use Rattle.carousel_blocks.specs.Buffers.{BufferState, is_missing, all_came, with_block_at}
use Rattle.carousel_blocks.specs.Modules.{kept_for, standing_kept}
use Rattle.carousel_blocks.specs.Changes.{line_by, gone, changed, appeared, completed, number_bound}
use Rattle.carousel_blocks.specs.Carousel.{CarouselState, KeepsSame, kept_in}

-- the transactionId is that of the DII in force
abbrev pub is_transaction : Option ℕ → ℕ → Bool
is_transaction None transaction = false
is_transaction (Some other) transaction = transaction == other

abbrev pub is_in_force : CarouselState → ℕ → Bool
is_in_force c transaction = is_transaction c.transaction transaction

-- another DII is in force
pub record TakesDii (old new : CarouselState) (dii : Dii) : Type 0 where
  pub transaction : new.transaction ≡ Some dii.transaction
  pub download : new.download ≡ Some dii.download
  pub modules : (number : ℕ) → kept_in new number ≡ option_map (kept_for (kept_in old)) (find (is_of_module number) (standings dii))

-- the block is one that is asked for, and none came for its number
abbrev pub is_wanted : Kept → DataBlock → Bool
is_wanted k block = is_asked k.standing block && is_missing (slice_get k.blocks block.number)

-- with a block more, where it is wanted
abbrev pub with_block : DataBlock → Kept → Kept
with_block block k = if is_wanted k block then record { standing = k.standing; blocks = slice_set k.blocks block.number (Some block.block) } else k

-- without a block that is asked for
abbrev pub without_block : DataBlock → Kept → Kept
without_block block k = if is_asked k.standing block then record { standing = k.standing; blocks = slice_set k.blocks block.number None } else k

-- what becomes of the block
abbrev pub answer_kept : Kept → DataBlock → Put
answer_kept k block =
    if is_wanted k block then (if all_came (slice_set k.blocks block.number (Some block.block)) then puts.Completed block.module else puts.Kept) else puts.Ignored

abbrev pub answer_to : Option Kept → DataBlock → Put
answer_to None block = puts.Ignored
answer_to (Some k) block = answer_kept k block

-- a block came
pub record TakesBlock (old new : CarouselState) (block : DataBlock) (answer : Put) : Type 0 where
  pub transaction : new.transaction ≡ old.transaction
  pub download : new.download ≡ old.download
  pub modules : (number : ℕ) → kept_in new number ≡ option_map (with_block block) (kept_in old number)
  pub answer_is : answer ≡ answer_to (kept_in old block.module) block

-- a block is taken back
pub record TakesBack (old new : CarouselState) (block : DataBlock) : Type 0 where
  pub transaction : new.transaction ≡ old.transaction
  pub download : new.download ≡ old.download
  pub modules : (number : ℕ) → kept_in new number ≡ option_map (without_block block) (kept_in old number)

-- the same of a section, by the DDB that it carries; without one nothing changes
abbrev pub TakesBackBy : {F : Type 0} → Result DataBlock F → CarouselState → CarouselState → Type 0
TakesBackBy (Ok block) old new = TakesBack old new block
TakesBackBy (Err fault) old new = KeepsSame old new

-- what a buffer makes of a block with the length that it has there
abbrev pub with_block_in : ℕ → List ℕ → BufferState → BufferState
with_block_in number block buffer = if is_missing (slice_get buffer.blocks number) then with_block_at number block buffer else buffer

abbrev pub answer_in : ℕ → List ℕ → BufferState → Put
answer_in number block buffer =
    if is_missing (slice_get buffer.blocks number) then (if all_came (slice_set buffer.blocks number (Some block)) then puts.Completed buffer.shape.number else puts.Kept) else puts.Ignored

-- the module that the block completes, and the bytes that it has then
abbrev pub whole_kept : Kept → DataBlock → Option (ℕ × List ℕ)
whole_kept k block =
    if is_wanted k block then option_map (λ bytes. (block.module, bytes)) (joined_bytes (slice_set k.blocks block.number (Some block.block))) else None

abbrev pub whole_to : Option Kept → DataBlock → Option (ℕ × List ℕ)
whole_to None block = None
whole_to (Some k) block = whole_kept k block

-- ---- what is told

-- A module's change where another DII came: an unchanged one is held as before.
abbrev pub entry_change : ℕ → Option Standing → Option Standing → Bool → Option Change
entry_change number None None is_held = None
entry_change number (Some old) None is_held = Some (gone number)
entry_change number None (Some new) is_held = Some (appeared number (line_by new.entry new.skip is_held))
entry_change number (Some old) (Some new) is_held =
    if same_standing old new then None else Some (changed number (line_by new.entry new.skip is_held))

-- the same by what is kept of each module before and now
abbrev pub entry_change_at : (ℕ → Option Kept) → (ℕ → Option Kept) → ℕ → Option Change
entry_change_at old new number =
    entry_change number (standing_kept (old number)) (standing_kept (new number)) (is_some (option_and_then bytes_kept (new number)))

-- those of all modules, in ascending number
unfoldable pub entry_changes : (ℕ → Option Kept) → (ℕ → Option Kept) → List Change
entry_changes old new = filter_map (entry_change_at old new) (range_with_len 0 number_bound)

-- a module's change where a block came, by what became of the block and what is said of each module
abbrev pub block_change : (ℕ → Option Standing) → Put → Option Change
block_change standing_at (puts.Completed number) = option_map (λ s. completed number s.entry) (standing_at number)
block_change standing_at _ = None
