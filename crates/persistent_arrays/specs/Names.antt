-- The names of persistent arrays (after ARIB STD-B24, volume 2, the name space `nvram:`; how many arrays there are
-- under `nvram://~/` is this project's own profile).
use Rattle.std.specs.Prelude.{◌≡◌, ◌<◌, ℕ, List, ◌++◌, find, Option, codes as ascii}
use Rattle.std.specs.List.{range_with_len}
use Rattle.bml_bytes.specs.Numerals.{decimal_digits}
use Rattle.bml_bytes.specs.Words.{is_same}
use Rattle.persistent_arrays.specs.Arrays.{array_count}

-- the name of an array: `nvram://~/` and its number in decimal digits
abbrev pub array_name : ℕ → List ℕ
array_name slot = ascii "nvram://~/" ++ decimal_digits slot

-- the text names this array
pub record Names (text : List ℕ) (slot : ℕ) : Type 0 where
  pub is_array : slot < array_count
  pub written : text ≡ array_name slot

-- the array that a text names, worked out; `law_of_array_names` says that this is the same
unfoldable pub array_named : List ℕ → Option ℕ
array_named text = find (λ slot. is_same text (array_name slot)) (range_with_len 0 array_count)
