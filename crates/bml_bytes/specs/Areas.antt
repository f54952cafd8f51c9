-- The persistent area of a receiver (this project's own; ARIB STD-B24 volume 2 leaves its size to the operation).
use Rattle.std.specs.Prelude.{ℕ}

-- how many bytes a receiver keeps while it is switched off
abbrev pub area_length : ℕ
area_length = 3072
