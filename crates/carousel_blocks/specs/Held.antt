-- Which blocks of a component's messages count, and which modules they make up (this project's own, after ARIB
-- STD-B24, volume 3).
use Rattle.std.specs.Prelude.{◌≡◌, ◌<◌, ℕ, zero, suc, ◌+◌, ◌-◌, ◌*◌, ◌==◌, nat_lt, min, Bool, true, false, ◌&&◌, if◌then◌else◌, List, [], ◌∷◌, ◌++◌, length, take, find, slice_get, bytes_eq, Option, Some, None, option_map, option_and_then, option_to_list}
use Rattle.dsmcc_messages.specs.Ddb.{DataBlock}
use Rattle.dsmcc_messages.specs.declared.dii.Dii.{Dii}
use Rattle.carousel_blocks.specs.declared.standing.SkipCause.{SkipCause}
use Rattle.carousel_blocks.specs.declared.standing.SkipCause.TheVariants.{Compressed, Large}
use Rattle.carousel_blocks.specs.declared.standing.Standing.{Standing}
use Rattle.carousel_blocks.specs.Message.{Message, Indication, Data}
use Rattle.carousel_blocks.specs.InForce.{later, in_force, standing_of, block_count}

-- ---- the blocks that an entry asks for

-- how many: none where the module is skipped
abbrev pub asked_count : Standing → Option SkipCause → ℕ
asked_count standing None = block_count standing.block_size standing.entry.size
asked_count standing (Some cause) = 0

abbrev pub count_of : Standing → ℕ
count_of standing = asked_count standing standing.skip

-- the length of a block: blocks of one size, of which the last ends with the module
abbrev pub block_length : Standing → ℕ → ℕ
block_length standing number = min standing.block_size (standing.entry.size - number * standing.block_size)

-- An unskipped entry asks for the blocks with its downloadId, number and version, with each block number, and with
-- the length that this block has.
abbrev pub is_asked : Standing → DataBlock → Bool
is_asked standing block =
    nat_lt block.number (count_of standing) && ((block.download == standing.download) && ((block.module == standing.entry.id)
    && ((block.version == standing.entry.version) && (length block.block == block_length standing block.number))))

abbrev pub is_asked_by : Option Standing → DataBlock → Bool
is_asked_by None block = false
is_asked_by (Some standing) block = is_asked standing block

-- the block of a message, where it is one that is asked for
abbrev pub asked_block : Option Standing → Message → Option DataBlock
asked_block standing (Indication dii) = None
asked_block standing (Data block) = if is_asked_by standing block then Some block else None

-- ---- the blocks that count

-- the same skip standing
abbrev pub same_skip : Option SkipCause → Option SkipCause → Bool
same_skip None None = true
same_skip (Some Compressed) (Some Compressed) = true
same_skip (Some Large) (Some Large) = true
same_skip _ _ = false

abbrev pub same_standing : Standing → Standing → Bool
same_standing old new =
    (new.download == old.download) && ((new.block_size == old.block_size) && ((new.entry.id == old.entry.id) && ((new.entry.size == old.entry.size)
    && ((new.entry.version == old.entry.version) && (bytes_eq new.entry.info old.entry.info && same_skip new.skip old.skip)))))

-- The entry is unchanged: it is there as before, with the same downloadId, blockSize, size, version, info and skip
-- standing. One that is gone has changed.
abbrev pub unchanged : Option Standing → Option Standing → Bool
unchanged (Some old) (Some new) = same_standing old new
unchanged _ _ = false

-- the module's entry stays this one in the DII in force, here and behind each of these messages
abbrev pub stays : Option Standing → Option Dii → ℕ → List Message → Bool
stays standing dii number [] = unchanged standing (standing_of dii number)
stays standing dii number (message ∷ messages) = unchanged standing (standing_of dii number) && stays standing (later dii message) number messages

-- The blocks of a module that count, behind a DII in force: those that the module's entry asks for where they come,
-- and whose entry then stays unchanged to the end.
abbrev pub counting_blocks : Option Dii → ℕ → List Message → List DataBlock
counting_blocks dii number [] = []
counting_blocks dii number (message ∷ messages) =
    (if stays (standing_of dii number) (later dii message) number messages then option_to_list (asked_block (standing_of dii number) message) else [])
    ++ counting_blocks (later dii message) number messages

-- The same in places of the list: the block stands at this place, the entry of the DII in force there asks for it,
-- and the entry is unchanged in the DII in force behind each place from there on.
pub record CountsAt (messages : List Message) (number : ℕ) (block : DataBlock) (place : ℕ) : Type 0 where
  pub stands : slice_get messages place ≡ Some (Data block)
  pub asked : is_asked_by (standing_of (in_force (take place messages)) number) block ≡ true
  pub stays : (other : ℕ) → place < other → other < length messages + 1
      → unchanged (standing_of (in_force (take place messages)) number) (standing_of (in_force (take other messages)) number) ≡ true

-- ---- the module

-- of the blocks with one number the first counts
abbrev pub first_of : List DataBlock → ℕ → Option (List ℕ)
first_of blocks number = option_map (λ block. block.block) (find (λ block. block.number == number) blocks)

-- the blocks from a number on, so many of them
abbrev pub blocks_from : (ℕ → Option (List ℕ)) → ℕ → ℕ → List (Option (List ℕ))
blocks_from block_at number zero = []
blocks_from block_at number (suc more) = block_at number ∷ blocks_from block_at (number + 1) more

-- all of them joined, where none is missing
abbrev pub joined_bytes : List (Option (List ℕ)) → Option (List ℕ)
joined_bytes [] = Some []
joined_bytes (None ∷ blocks) = None
joined_bytes (Some block ∷ blocks) = option_map (λ behind. block ++ behind) (joined_bytes blocks)

-- what a carousel keeps of a module: its entry's standing, and for each block number the block, where it came
pub record Kept : Type 0 where
  pub standing : Standing
  pub blocks : List (Option (List ℕ))

abbrev pub kept_with : List DataBlock → Standing → Kept
kept_with blocks standing = record { standing = standing; blocks = blocks_from (first_of blocks) 0 (count_of standing) }

-- what is to be kept of a module behind these messages
abbrev pub kept_module : List Message → ℕ → Option Kept
kept_module messages number = option_map (kept_with (counting_blocks None number messages)) (standing_of (in_force messages) number)

-- the module's bytes, where its entry isn't skipped and each of its blocks came
abbrev pub bytes_by : Option SkipCause → List (Option (List ℕ)) → Option (List ℕ)
bytes_by None blocks = joined_bytes blocks
bytes_by (Some cause) blocks = None

abbrev pub bytes_kept : Kept → Option (List ℕ)
bytes_kept k = bytes_by k.standing.skip k.blocks

-- the bytes of a module that is held behind these messages
unfoldable pub bytes_held : List Message → ℕ → Option (List ℕ)
bytes_held messages number = option_and_then bytes_kept (kept_module messages number)
