-- Tables of program specific information in sections (ISO/IEC 13818-1, 2.4.4): which table a section carries, and
-- how its fields are written. Numbers are big-endian.
use Rattle.std.specs.Prelude.{◌≡◌, ◌<◌, ◌+◌, ◌-◌, ◌*◌, ◌%◌, ◌^◌, ℕ, List, take, drop, slice_index}
use Rattle.bml_bytes.specs.Numbers.{big_bytes}

-- the two bytes behind section_length: transport_stream_id or program_number (2.4.4.5, 2.4.4.9)
abbrev pub extension : List ℕ → List ℕ
extension section = take 2 (drop 3 section)

-- the table_id of a program_association_section (2.4.4.4)
abbrev pub association_table : ℕ
association_table = 0x00

-- the table_id of a TS_program_map_section (2.4.4.4)
abbrev pub map_table : ℕ
map_table = 0x02

-- The section carries that table: it has its table_id, it is in force and not announced for later
-- (current_next_indicator 1, the lowest bit of byte 5), and it is the first section of its table (section_number 0,
-- byte 6). That no other section is read is this project's own rule.
pub record IsOfTable (table_id : ℕ) (section : List ℕ) : Type 0 where
  pub table : slice_index section 0 ≡ table_id
  pub current : slice_index section 5 % 2 ≡ 1
  pub first : slice_index section 6 ≡ 0

-- the two bytes are reserved bits, which may be any, and behind them a number in `width` bits
pub record IsNarrow (width number : ℕ) (text : List ℕ) : Type 0 where
  pub reserved : ℕ
  pub reserved_fits : reserved < 2 ^ (16 - width)
  pub number_fits : number < 2 ^ width
  pub written : text ≡ big_bytes 2 (reserved * 2 ^ width + number)
