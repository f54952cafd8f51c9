-- A device of the proofs: what taking in bytes of a packet says of the sections ahead. (This
-- project's own.)
use Rattle.std.specs.Prelude.{◌≡◌, ◌≢◌, ℕ, ◌<◌, ◌≤◌, Bool, true, false, List, [], ◌∷◌, ◌++◌, length, take, drop, map, slice_index, Option, Some, None}
use Rattle.ts_sections.specs.Sections.{Byte, section_size, begins_whole}
use Rattle.ts_sections.specs.devices.Ahead.{Tokens, in_front, sections_of_open, sections_from}
use Rattle.ts_sections.specs.declared.piece.Stage.{Stage}
use Rattle.ts_sections.specs.declared.piece.Stage.TheVariants.{Unread, Gathering, Given}
use Rattle.ts_sections.specs.declared.piece.Taken.{Taken}
use Rattle.ts_sections.specs.declared.piece.Taken.TheVariants.{All, Joined, Whole}

pub record PieceState : Type 0 where
  -- the bytes behind the piece's last whole section; none where what comes up to the next mark is
  -- unread
  pub known : Option (List ℕ)
  -- the bytes that were gathered last
  pub gathered : List ℕ

-- the first bytes of a section, not all of them; or no byte yet
pub record IsPart (bytes : List ℕ) : Type 0 where
  pub first : slice_index bytes 0 ≢ 0xFF
  pub short : 3 ≤ length bytes → length bytes < section_size bytes

abbrev pub known_of : Stage → List ℕ → Option (List ℕ)
known_of Unread bytes = None
known_of Gathering bytes = Some bytes
known_of Given bytes = Some []

abbrev pub IsSound : Stage → List ℕ → Type 0
IsSound Unread bytes = Unit {0}
IsSound Gathering bytes = IsPart bytes
IsSound Given bytes = Unit {0}

-- the bytes are taken in, and no section ended in them
pub record TakesAll (old new : Option (List ℕ)) (bytes : List ℕ) : Type 0 where
  pub ended : sections_of_open new [] ≡ []
  pub ahead : (behind : Tokens)
      → sections_from old (in_front true (map Byte bytes) behind) ≡ sections_from new behind

-- a section ended with the first `count` of the bytes
pub record TakesSection (old new : Option (List ℕ)) (bytes section : List ℕ) (count : ℕ)
    : Type 0 where
  pub within : count ≤ length bytes
  pub ahead : (behind : Tokens)
      → sections_from old (in_front true (map Byte bytes) behind)
      ≡ section ∷ sections_from new (in_front true (map Byte (drop count bytes)) behind)

abbrev pub Takes : PieceState → List ℕ → PieceState → Taken → Type 0
Takes old bytes new All = TakesAll old.known new.known bytes
Takes old bytes new (Joined count) = TakesSection old.known new.known bytes new.gathered count
Takes old bytes new (Whole count) = TakesSection old.known new.known bytes (take count bytes) count

-- a section ends in bytes that come behind those that are known
abbrev pub ends_in : Option (List ℕ) → List ℕ → Bool
ends_in None bytes = false
ends_in (Some known) bytes = begins_whole (known ++ bytes)
