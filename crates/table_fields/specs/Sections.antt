-- The parts of a section (ISO/IEC 13818-1, 2.4.4; ISO/IEC 13818-6, 9.2).
use Rattle.std.specs.Prelude.{ℕ, ◌-◌, List, length, take, drop}

-- what stands behind the eight header bytes of a section and before the four bytes of its CRC_32
abbrev pub body : List ℕ → List ℕ
body section = take (length section - 12) (drop 8 section)
