-- How wide codes are in a row (this project's own).
use Rattle.std.specs.Prelude.{◌+◌, ◌-◌, ◌*◌, ◌/◌, ℕ, nat_lt, if◌then◌else◌, List, length, sum_by}

-- the width of a box, the size of its characters, and the space between two codes, in pixels
pub record Measures : Type 0 where
  pub width : ℕ
  pub size : ℕ
  pub spacing : ℕ

abbrev pub measures : ℕ → ℕ → ℕ → Measures
measures width size spacing = record { width = width; size = size; spacing = spacing }

-- a code above 255 is as wide as the size of the characters, and every other half of that, cut down
abbrev pub code_width : ℕ → ℕ → ℕ
code_width size code = if nat_lt 255 code then size else size / 2

-- codes use the sum of their widths, and the space between neighbours
abbrev pub used : Measures → List ℕ → ℕ
used m codes = sum_by (code_width m.size) codes + (length codes - 1) * m.spacing
