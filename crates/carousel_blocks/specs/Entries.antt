-- Which entries of a DII count and which are skipped, told in places of the list of entries (after ISO/IEC 13818-6 and
-- ARIB STD-B24, volume 3; the limits are this project's own). `law_of_entries` says that these are the standings of
-- `InForce`.
use Rattle.std.specs.Prelude.{◌≡◌, ◌<◌, ◌≤◌, ◌+◌, ◌*◌, ◌==◌, ◌⊎◌, ℕ, Bool, false, if◌then◌else◌, List, take, slice_get, sum_by, Option, Some, None, option_and_then}
use Rattle.std.specs.List.{list_any, range_with_len}
use Rattle.dsmcc_messages.specs.declared.entry.Entry.{Entry}
use Rattle.dsmcc_messages.specs.declared.dii.Dii.{Dii}
use Rattle.carousel_blocks.specs.declared.standing.SkipCause.{SkipCause}
use Rattle.carousel_blocks.specs.InForce.{size_limit, block_limit, sum_limit, is_compressed, counted_size, standing_of}

-- an entry before that place has that number
abbrev pub is_taken : Dii → ℕ → ℕ → Bool
is_taken dii place number = list_any (λ entry. entry.id == number) (take place dii.entries)

-- The entry stands at that place and counts: of two with one number the first does.
pub record CountsAsEntry (dii : Dii) (place : ℕ) (entry : Entry) : Type 0 where
  pub stands : slice_get dii.entries place ≡ Some entry
  pub first : is_taken dii place entry.id ≡ false

-- why the module with that number is skipped, where it is
abbrev pub skip_in : Dii → ℕ → Option SkipCause
skip_in dii number = option_and_then (λ standing. standing.skip) (standing_of (Some dii) number)

-- the bytes that an entry adds: its size, where it counts and isn't skipped
abbrev pub bytes_added : Dii → ℕ → Option Entry → ℕ
bytes_added dii place None = 0
bytes_added dii place (Some entry) = if is_taken dii place entry.id then 0 else counted_size (skip_in dii entry.id) entry.size

-- the sizes of the unskipped entries before a place, together
abbrev pub sum_before : Dii → ℕ → ℕ
sum_before dii place = sum_by (λ earlier. bytes_added dii earlier (slice_get dii.entries earlier)) (range_with_len 0 place)

-- each number of blocks that make up the module is above the limit; no number of blocks of no bytes makes up any
abbrev pub HasManyBlocks : ℕ → ℕ → Type 0
HasManyBlocks block_size size = (count : ℕ) → size ≤ count * block_size → block_limit < count

-- An entry is large by its own size or number of blocks, or by its size and those of the unskipped entries before it.
pub record IsLargeAt (dii : Dii) (place : ℕ) (entry : Entry) : Type 0 where
  pub plain : is_compressed entry ≡ false
  pub large : (size_limit < entry.size) ⊎ (HasManyBlocks dii.block_size entry.size ⊎ (sum_limit < sum_before dii place + entry.size))
