-- Which DII of a component is in force, and what it says of each module (after ARIB STD-B24, volume 3; which DII
-- is in force, and the limits, are this project's own).
use Rattle.std.specs.Prelude.{ℕ, zero, suc, ◌+◌, ◌/◌, ◌==◌, nat_lt, Bool, ◌||◌, if◌then◌else◌, List, [], ◌∷◌, ◌++◌, fold, find, Option, Some, None, is_some}
use Rattle.std.specs.List.{list_any}
use Rattle.dsmcc_messages.specs.declared.entry.Entry.{Entry}
use Rattle.dsmcc_messages.specs.declared.dii.Dii.{Dii}
use Rattle.dsmcc_messages.specs.Reading.{descriptor_in}
use Rattle.carousel_blocks.specs.declared.standing.SkipCause.{SkipCause}
use Rattle.carousel_blocks.specs.declared.standing.SkipCause.TheVariants.{Compressed, Large}
use Rattle.carousel_blocks.specs.declared.standing.Standing.{Standing}
use Rattle.carousel_blocks.specs.Message.{Message, Indication, Data}

-- the DII in force behind a message: one with the transactionId in force counts as absent
abbrev pub later : Option Dii → Message → Option Dii
later None (Indication dii) = Some dii
later (Some dii) (Indication other) = Some (if other.transaction == dii.transaction then dii else other)
later dii (Data block) = dii

-- the DII in force behind these messages: the last, where one with the transactionId in force counts as absent
abbrev pub in_force : List Message → Option Dii
in_force messages = fold later None messages

-- ---- what a DII says of a module

-- the number of blocks of a module: all have the DII's blockSize, but the last may be shorter
abbrev pub block_count : ℕ → ℕ → ℕ
block_count zero size = 0
block_count (suc n) size = (size + n) / suc n

-- the most bytes and the most blocks of a module that isn't skipped, and the most bytes of all of a DII together
abbrev pub size_limit : ℕ
size_limit = 1_048_576

abbrev pub block_limit : ℕ
block_limit = 65_536

abbrev pub sum_limit : ℕ
sum_limit = 33_554_432

-- a module is large by itself where it has more bytes or more blocks; no number of blocks of no bytes makes up a module
-- with bytes
abbrev pub is_large : ℕ → ℕ → Bool
is_large zero size = nat_lt 0 size
is_large (suc n) size = nat_lt size_limit size || nat_lt block_limit (block_count (suc n) size)

-- a compressed module has a CompressionType descriptor
abbrev pub is_compressed : Entry → Bool
is_compressed entry = is_some (descriptor_in entry.info 0xC2)

-- Why an entry is skipped, where it is: one that isn't compressed is large by itself, or since its size and the sizes
-- of the unskipped entries before it, which have so many bytes together, pass the limit.
abbrev pub skip_standing : ℕ → ℕ → Entry → Option SkipCause
skip_standing block_size before entry =
    if is_compressed entry then Some Compressed
    else (if is_large block_size entry.size || nat_lt sum_limit (before + entry.size) then Some Large else None)

-- the bytes of the modules that aren't skipped
abbrev pub counted_size : Option SkipCause → ℕ → ℕ
counted_size None size = size
counted_size (Some cause) size = 0

abbrev pub unskipped_size : List Standing → ℕ
unskipped_size [] = 0
unskipped_size (s ∷ standings) = counted_size s.skip s.entry.size + unskipped_size standings

abbrev pub is_of_module : ℕ → Standing → Bool
is_of_module number standing = standing.entry.id == number

-- the entries before an entry, and the entry with its standing behind them, where none of them has its number
abbrev pub with_entry : Dii → List Standing → Entry → List Standing
with_entry dii before entry =
    if list_any (is_of_module entry.id) before then before
    else before ++ record {
      download = dii.download;
      block_size = dii.block_size;
      entry = entry;
      skip = skip_standing dii.block_size (unskipped_size before) entry;
    } ∷ []

-- The entries of a DII with their standings, in order. Of two with one number the first counts, and the second counts
-- for nothing.
abbrev pub standings : Dii → List Standing
standings dii = fold (with_entry dii) [] dii.entries

-- what the DII in force says of a module
abbrev pub standing_of : Option Dii → ℕ → Option Standing
standing_of None number = None
standing_of (Some dii) number = find (is_of_module number) (standings dii)
