-- How the fields of a persistent array are laid out in bytes (this project's own, after ARIB STD-B24, volume 2).
-- Neighbouring bits share bytes, from the top bit on; every other field begins on a byte.
use Rattle.std.specs.Prelude.{◌+◌, ◌/◌, ℕ, zero, suc, nat_le, Bool, if◌then◌else◌, List, [], ◌∷◌, length, take, drop, Option, Some, None, option_map}
use Rattle.std.specs.List.{flat_map}
use Rattle.std.specs.Int.{div_ceil}
use Rattle.bml_bytes.specs.Fields.{◌>>=◌}
use Rattle.persistent_arrays.specs.Arrays.{array_size}
use Rattle.persistent_arrays.specs.declared.fields.Field.{Field}
use Rattle.persistent_arrays.specs.declared.fields.Field.TheVariants as fields
use Rattle.persistent_arrays.specs.declared.kinds.FieldKind.{FieldKind}
use Rattle.persistent_arrays.specs.declared.kinds.FieldKind.TheVariants.{Bit}
use Rattle.persistent_arrays.specs.Fields.{field_bytes}

-- what stands side by side in an array: neighbouring bits, as many as there are, or the bytes of another field
pub data Piece : Type 0 where
  Bits : List Bool → Piece
  Bytes : List ℕ → Piece

-- a bit in front of pieces joins the bits that they begin with
abbrev pub with_bit : Bool → List Piece → List Piece
with_bit bit [] = Bits (bit ∷ []) ∷ []
with_bit bit (Bits bits ∷ pieces) = Bits (bit ∷ bits) ∷ pieces
with_bit bit (Bytes bytes ∷ pieces) = Bits (bit ∷ []) ∷ Bytes bytes ∷ pieces

-- The pieces of fields with these values. None where a value doesn't fit its field, or there are more values than fields
-- or more fields than values.
abbrev pub pieces : List FieldKind → List Field → Option (List Piece)
pieces [] [] = Some []
pieces (Bit ∷ kinds) (fields.Bit bit ∷ values) = option_map (with_bit bit) (pieces kinds values)
pieces (kind ∷ kinds) (value ∷ values) =
    field_bytes kind value >>= λ bytes.
    option_map (λ rest. Bytes bytes ∷ rest) (pieces kinds values)
pieces kinds values = None

-- the number that bits are where the first has this weight, and each one half the weight of the one before it
abbrev pub weighed : ℕ → List Bool → ℕ
weighed weight [] = 0
weighed weight (bit ∷ bits) = (if bit then weight else 0) + weighed (weight / 2) bits

-- so many bytes, each with the next eight bits from its top on; bits that are missing are 0
abbrev pub cut_bits : ℕ → List Bool → List ℕ
cut_bits zero bits = []
cut_bits (suc count) bits = weighed 128 (take 8 bits) ∷ cut_bits count (drop 8 bits)

-- the bytes of a piece; those of bits are as few as hold them
abbrev pub piece_bytes : Piece → List ℕ
piece_bytes (Bits bits) = cut_bits (div_ceil (length bits) 8) bits
piece_bytes (Bytes bytes) = bytes

-- the bytes of fields with these values
abbrev pub packed : List FieldKind → List Field → Option (List ℕ)
packed kinds values = option_map (flat_map piece_bytes) (pieces kinds values)

-- what is packed, where an array has room for it
abbrev pub within_array : Option (List ℕ) → Option (List ℕ)
within_array found = found >>= λ bytes. if nat_le (length bytes) array_size then Some bytes else None

-- the bytes of fields with these values, where an array has room for them
abbrev pub packed_in_array : List FieldKind → List Field → Option (List ℕ)
packed_in_array kinds values = within_array (packed kinds values)
