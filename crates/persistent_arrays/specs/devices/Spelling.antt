-- A device of the proofs: how a field is spelled, read from the front of a text to its back.
use Rattle.std.specs.Prelude.{◌+◌, ◌-◌, ◌*◌, ◌==◌, ℕ, nat_le, nat_lt, Bool, ◌&&◌, ◌||◌, if◌then◌else◌, List, [], ◌∷◌, length, Option, Some, None}
use Rattle.std.specs.Str.{byte}
use Rattle.bml_bytes.specs.Fields.{◌>>=◌, byte_at}
use Rattle.bml_bytes.specs.Numerals.{is_decimal_digit}
use Rattle.persistent_arrays.specs.Arrays.{array_count, array_size}
use Rattle.persistent_arrays.specs.declared.kinds.FieldKind.{FieldKind}
use Rattle.persistent_arrays.specs.declared.kinds.FieldKind.TheVariants.{Bit, Unsigned, Signed, Fixed, Varying}

-- the number whose first digit has this value, with a second digit where one follows, and what stands behind it
unfoldable pub numeral_behind : ℕ → List ℕ → ℕ × List ℕ
numeral_behind first [] = (first, [])
numeral_behind first (next ∷ codes) = if is_decimal_digit next then (first * 10 + (next - 48), codes) else (first, next ∷ codes)

-- a number of one or two digits with no zero in front of another digit, and what stands behind it
unfoldable pub numeral_at : List ℕ → Option (ℕ × List ℕ)
numeral_at [] = None
numeral_at (first ∷ codes) =
    if is_decimal_digit first then (if first - 48 == 0 then Some (0, codes) else Some (numeral_behind (first - 48) codes)) else None

-- the field is spelled with this letter in front and this unit at the end
abbrev pub has_letters : ℕ → ℕ → ℕ → ℕ → Bool
has_letters letter unit first last = (letter == first) && (unit == last)

-- a number has this size
abbrev pub is_number_size : ℕ → Bool
is_number_size size = (size == 1) || ((size == 2) || (size == 4))

-- the field that is spelled with this letter, size and unit
unfoldable pub kind_with : ℕ → ℕ → ℕ → Option FieldKind
kind_with letter size unit =
    if has_letters letter unit (byte "B") (byte "b") then (if size == 1 then Some Bit else None)
    else (if has_letters letter unit (byte "U") (byte "B") then (if is_number_size size then Some (Unsigned size) else None)
    else (if has_letters letter unit (byte "I") (byte "B") then (if is_number_size size then Some (Signed size) else None)
    else (if has_letters letter unit (byte "S") (byte "B") then (if nat_le 1 size && nat_le size array_size then Some (Fixed size) else None)
    else (if has_letters letter unit (byte "S") (byte "V") then (if size == 1 then Some Varying else None) else None))))

-- a colon and a number of one or two digits, and what stands behind them
unfoldable pub size_at : List ℕ → Option (ℕ × List ℕ)
size_at codes = do
  colon ← byte_at codes
  size ← numeral_at colon.1
  if colon.0 == byte ":" then Some size else None

-- the field at the front of a text, and what stands behind it
unfoldable pub kind_at : List ℕ → Option (FieldKind × List ℕ)
kind_at codes = do
  letter ← byte_at codes
  size ← size_at letter.1
  unit ← byte_at size.1
  kind ← kind_with letter.0 size.0 unit.0
  Some (kind, unit.1)

-- the number of an array that some digits are
abbrev pub number_of_array : List ℕ → Option ℕ
number_of_array digits = numeral_at digits >>= λ found. if (length found.1 == 0) && nat_lt found.0 array_count then Some found.0 else None
