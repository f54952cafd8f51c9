-- When a section is intact. The fields are those of ISO/IEC 13818-1, 2.4.4.
use Rattle.std.specs.Prelude.{◌≡◌, ℕ, ◌+◌, ◌*◌, ◌%◌, ◌≤◌, ◌==◌, nat_le, Bool, ◌&&◌, List, length, slice_index}
use Rattle.std.specs.Int.{bit_at}
use Rattle.ts_sections.specs.Crc.{remainder_of}

-- section_syntax_indicator: the first bit behind table_id
abbrev pub section_syntax_indicator : List ℕ → ℕ
section_syntax_indicator section = bit_at (slice_index section 1) 7

-- section_length: 12 bits, the low four of the second byte and the third byte. It counts the bytes
-- behind itself
abbrev pub section_length : List ℕ → ℕ
section_length section = (slice_index section 1 % 16) * 256 + slice_index section 2

-- a whole section that follows the generic section syntax (section_syntax_indicator 1), undamaged
pub record IsIntact (section : List ℕ) : Type 0 where
  -- eight bytes of header and four of CRC_32
  pub long_form : 12 ≤ length section
  pub indicator : section_syntax_indicator section ≡ 1
  -- three bytes end with section_length
  pub whole : section_length section + 3 ≡ length section
  pub remainder : remainder_of section ≡ 0

-- the same as a test, for lists of sections
abbrev pub is_intact : List ℕ → Bool
is_intact section =
    nat_le 12 (length section)
    && (section_syntax_indicator section == 1)
    && (section_length section + 3 == length section)
    && (remainder_of section == 0)
