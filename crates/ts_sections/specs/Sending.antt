-- Packets and sections as a sender lays them out (ISO/IEC 13818-1, 2.4.3 and 2.4.4): the words in which
-- the laws say what is read of them.
use Rattle.std.specs.Prelude.{◌≡◌, ℕ, true, List, [], ◌∷◌, length, map}
use Rattle.ts_sections.specs.Sections.{Token, Byte, Mark, begins_whole, follows, section_size}

-- each packet follows the one before it, so that they are one run
abbrev pub FollowEachOther : List (List ℕ) → Type 0
FollowEachOther [] = Unit {0}
FollowEachOther (packet ∷ []) = Unit {0}
FollowEachOther (before ∷ packet ∷ rest) =
    (follows before packet ≡ true) × FollowEachOther (packet ∷ rest)

-- the bytes of a piece, behind the mark at which it begins
abbrev pub marked_piece : List ℕ → List Token
marked_piece bytes = Mark ∷ map Byte bytes

-- the bytes are one section: a whole one begins them, and there are no more
pub record IsSection (bytes : List ℕ) : Type 0 where
  pub begins : begins_whole bytes ≡ true
  pub all : section_size bytes ≡ length bytes
