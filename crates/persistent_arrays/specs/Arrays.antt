-- Where the arrays lie in the area that a receiver keeps (this project's own): one after another from the area's first
-- byte on, to its end.
use Rattle.std.specs.Prelude.{◌+◌, ◌*◌, ℕ, List, ◌++◌, length, take, drop, Option, Some, None}

-- how many bytes an array has
abbrev pub array_size : ℕ
array_size = 64

-- how many arrays there are
abbrev pub array_count : ℕ
array_count = 48

-- the place of an array's first byte in the area
abbrev pub first_byte : ℕ → ℕ
first_byte slot = array_size * slot

-- the area with these bytes at the front of an array, and all others as they were
abbrev pub with_array : List ℕ → ℕ → List ℕ → List ℕ
with_array area slot bytes =
    take (first_byte slot) area ++ (bytes ++ drop (first_byte slot + length bytes) area)

-- the area after these bytes were written, and as it was where there are none to write
abbrev pub area_after : List ℕ → ℕ → Option (List ℕ) → List ℕ
area_after area slot None = area
area_after area slot (Some bytes) = with_array area slot bytes

-- the bytes of an array
abbrev pub array_in : List ℕ → ℕ → List ℕ
array_in area slot = take array_size (drop (first_byte slot) area)
