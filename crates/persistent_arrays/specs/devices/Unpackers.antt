-- A device of the proofs: fields that are read one after another, with what is left of the bytes and of the bits of an
-- open byte.
use Rattle.std.specs.Prelude.{◌≡◌, ◌/◌, ◌%◌, ◌==◌, ℕ, Bool, List, [], ◌∷◌, length, drop, Option, Some, None, option_map, MatchOption}
use Rattle.bml_bytes.specs.Fields.{◌>>=◌}
use Rattle.persistent_arrays.specs.declared.fields.Field.{Field}
use Rattle.persistent_arrays.specs.declared.kinds.FieldKind.{FieldKind}
use Rattle.persistent_arrays.specs.declared.kinds.FieldKind.TheVariants.{Bit, Unsigned, Signed}
use Rattle.persistent_arrays.specs.declared.fields.Field.TheVariants as fields
use Rattle.persistent_arrays.specs.Fields.{field_value}
use Rattle.persistent_arrays.specs.Reading.{bits_of, field_at}
use Rattle.persistent_arrays.specs.Structures.{IsKind}

-- the bits of a byte behind its top
abbrev pub low_bits : ℕ → List Bool
low_bits byte = drop 1 (bits_of byte)

-- the values of fields in bytes, where the bits that are left of an open byte come first
abbrev pub unpacked_behind : List Bool → List FieldKind → List ℕ → Option (List Field)
unpacked_behind bits [] bytes = Some []
unpacked_behind (bit ∷ bits) (Bit ∷ kinds) bytes = option_map (λ values. fields.Bit bit ∷ values) (unpacked_behind bits kinds bytes)
unpacked_behind [] (Bit ∷ kinds) [] = None
unpacked_behind [] (Bit ∷ kinds) (byte ∷ bytes) =
    option_map (λ values. fields.Bit (byte / 128 % 2 == 1) ∷ values) (unpacked_behind (low_bits byte) kinds bytes)
unpacked_behind bits (kind ∷ kinds) bytes =
    field_at kind bytes >>= λ field. option_map (λ values. field_value kind field.0 ∷ values) (unpacked_behind [] kinds field.1)

-- the bytes are as many as a number of this kind has
abbrev pub HasSize : FieldKind → List ℕ → Type 0
HasSize (Unsigned size) bytes = IsKind (Unsigned size) × (length bytes ≡ size)
HasSize (Signed size) bytes = IsKind (Signed size) × (length bytes ≡ size)
HasSize kind bytes = Unit {0}

-- one more field is read, or it passes the end of the bytes
abbrev pub IsTaken : Option Field → FieldKind → (List Bool × List ℕ) → (List Bool × List ℕ) → Type 0
IsTaken result kind old new =
    MatchOption result
    ((kinds : List FieldKind) → unpacked_behind old.0 (kind ∷ kinds) old.1 ≡ None)
    (λ value. (kinds : List FieldKind) → unpacked_behind old.0 (kind ∷ kinds) old.1 ≡ option_map (λ values. value ∷ values) (unpacked_behind new.0 kinds new.1))
