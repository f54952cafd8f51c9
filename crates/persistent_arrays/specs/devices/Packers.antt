-- A device of the proofs: fields that are packed one after another, with the bytes so far and the bits of an open byte.
use Rattle.std.specs.Prelude.{◌≡◌, ◌==◌, ℕ, Bool, if◌then◌else◌, List, [], ◌∷◌, ◌++◌, length, Option, Some, None, option_map, MatchOption}
use Rattle.bml_bytes.specs.Fields.{◌>>=◌}
use Rattle.persistent_arrays.specs.declared.fields.Field.{Field}
use Rattle.persistent_arrays.specs.declared.fields.Field.TheVariants as fields
use Rattle.persistent_arrays.specs.declared.kinds.FieldKind.{FieldKind}
use Rattle.persistent_arrays.specs.declared.kinds.FieldKind.TheVariants.{Bit}
use Rattle.persistent_arrays.specs.Fields.{field_bytes}
use Rattle.persistent_arrays.specs.Packing.{weighed, within_array}

-- the value of a bit
abbrev pub bit_in : FieldKind → Field → Option Bool
bit_in Bit (fields.Bit bit) = Some bit
bit_in kind value = None

-- the byte of up to eight bits, which begin at its top, where there are any
abbrev pub shared_byte : List Bool → List ℕ
shared_byte [] = []
shared_byte (bit ∷ bits) = weighed 128 (bit ∷ bits) ∷ []

-- the bytes of fields with these values behind bits that stand in an open byte
abbrev pub packed_behind : List Bool → List FieldKind → List Field → Option (List ℕ)
packed_behind bits [] [] = Some (shared_byte bits)
packed_behind bits (Bit ∷ kinds) (fields.Bit bit ∷ values) =
    if length bits == 8
    then option_map (λ rest. shared_byte bits ++ rest) (packed_behind (bit ∷ []) kinds values)
    else packed_behind (bits ++ bit ∷ []) kinds values
packed_behind bits (kind ∷ kinds) (value ∷ values) =
    field_bytes kind value >>= λ bytes. option_map (λ rest. shared_byte bits ++ (bytes ++ rest)) (packed_behind [] kinds values)
packed_behind bits kinds values = None

-- the bytes of all fields, where these bytes and open bits stand before those that are left
abbrev pub packed_after : List ℕ → List Bool → List FieldKind → List Field → Option (List ℕ)
packed_after bytes bits kinds values = option_map (λ rest. bytes ++ rest) (packed_behind bits kinds values)

-- one more field is packed, or its bytes don't fit the field or the array
abbrev pub IsPushed : {X : Type 0} → Option X → FieldKind → Field → (List ℕ × List Bool) → (List ℕ × List Bool) → Type 0
IsPushed result kind value old new =
    MatchOption result
    ((kinds : List FieldKind) (values : List Field) → within_array (packed_after old.0 old.1 (kind ∷ kinds) (value ∷ values)) ≡ None)
    (λ _. (kinds : List FieldKind) (values : List Field) → packed_after old.0 old.1 (kind ∷ kinds) (value ∷ values) ≡ packed_after new.0 new.1 kinds values)
