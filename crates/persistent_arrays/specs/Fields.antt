-- The bytes of a field of a persistent array, and the value that bytes of a field are (after ARIB STD-B24, volume 2; the
-- forms are this project's own profile). Numbers are big-endian, and negative ones in two's complement.
use Rattle.std.specs.Prelude.{◌-◌, ◌*◌, ◌%◌, ◌^◌, ℕ, zero, suc, nat_le, nat_lt, false, if◌then◌else◌, ℤ, pos, ◌-ℤ◌, List, [], ◌∷◌, ◌++◌, length, replicate, Option, Some, None}
use Rattle.std.specs.Int.{w32, cast_unsigned}
use Rattle.bml_bytes.specs.Codes.{bytes_of, codes}
use Rattle.bml_bytes.specs.Numbers.{big_bytes, big_number}
use Rattle.persistent_arrays.specs.declared.fields.Field.{Field}
use Rattle.persistent_arrays.specs.declared.fields.Field.TheVariants as fields
use Rattle.persistent_arrays.specs.declared.kinds.FieldKind.{FieldKind}
use Rattle.persistent_arrays.specs.declared.kinds.FieldKind.TheVariants.{Bit, Unsigned, Signed, Fixed, Varying}

-- the number in the low bytes of a whole number of 32 bits in two's complement
abbrev pub low_number : ℕ → ℤ → ℕ
low_number size number = cast_unsigned w32 number % 256 ^ size

-- bytes that are filled up to a size with bytes 0
abbrev pub filled : ℕ → List ℕ → List ℕ
filled size bytes = bytes ++ replicate (size - length bytes) 0

-- The bytes of a field with a value; none where the value doesn't fit the field. A text of a fixed size is filled with
-- bytes 0, and one of varying size follows its length. A bit has no bytes of its own.
abbrev pub field_bytes : FieldKind → Field → Option (List ℕ)
field_bytes (Unsigned size) (fields.Whole number) = Some (big_bytes size (low_number size number))
field_bytes (Signed size) (fields.Whole number) = Some (big_bytes size (low_number size number))
field_bytes (Fixed size) (fields.Words text) =
    if nat_le (length (bytes_of text)) size then Some (filled size (bytes_of text)) else None
field_bytes Varying (fields.Words text) =
    if nat_lt (length (bytes_of text)) 256
    then Some (length (bytes_of text) ∷ bytes_of text) else None
field_bytes kind field = None

-- a number below 256 ^ size as a whole number with a sign, in two's complement
abbrev pub signed_number : ℕ → ℕ → ℤ
signed_number size number =
    if nat_lt (number * 2) (256 ^ size) then pos number else pos number -ℤ pos (256 ^ size)

-- a number without a sign as a whole number of 32 bits, where one that passes 31 bits wraps
abbrev pub unsigned_number : ℕ → ℤ
unsigned_number number = signed_number 4 number

-- a byte in front of bytes, and nothing where it is 0 and there are none
abbrev pub in_front : ℕ → List ℕ → List ℕ
in_front zero [] = []
in_front (suc less) [] = suc less ∷ []
in_front byte (next ∷ bytes) = byte ∷ next ∷ bytes

-- the bytes without those at their end that are 0
abbrev pub without_last_zeros : List ℕ → List ℕ
without_last_zeros [] = []
without_last_zeros (byte ∷ bytes) = in_front byte (without_last_zeros bytes)

-- the value that the bytes of a field are read as, where a text of varying size is without its length; a bit has no bytes
-- of its own, and this is never asked of one
abbrev pub field_value : FieldKind → List ℕ → Field
field_value (Unsigned size) bytes = fields.Whole (unsigned_number (big_number bytes))
field_value (Signed size) bytes = fields.Whole (signed_number size (big_number bytes))
field_value (Fixed size) bytes = fields.Words (codes (without_last_zeros bytes))
field_value Varying bytes = fields.Words (codes bytes)
field_value Bit bytes = fields.Bit false
