-- What a persistent array keeps of the values that are written to it (this project's own, after ARIB STD-B24, volume 2).
-- `law_of_kept_fields` says that this is what is read again.
use Rattle.std.specs.Prelude.{List, [], ◌∷◌}
use Rattle.bml_bytes.specs.Codes.{bytes_of, codes}
use Rattle.persistent_arrays.specs.declared.fields.Field.{Field}
use Rattle.persistent_arrays.specs.declared.fields.Field.TheVariants as fields
use Rattle.persistent_arrays.specs.declared.kinds.FieldKind.{FieldKind}
use Rattle.persistent_arrays.specs.declared.kinds.FieldKind.TheVariants.{Unsigned, Signed, Fixed, Varying}
use Rattle.persistent_arrays.specs.Fields.{low_number, signed_number, unsigned_number, without_last_zeros}

-- What is kept of a value: a bit itself, of a number what its low bytes are read as, of a text the codes of its bytes,
-- in a field of a fixed size without those at the end that are 0.
abbrev pub kept_value : FieldKind → Field → Field
kept_value (Unsigned size) (fields.Whole number) =
    fields.Whole (unsigned_number (low_number size number))
kept_value (Signed size) (fields.Whole number) =
    fields.Whole (signed_number size (low_number size number))
kept_value (Fixed size) (fields.Words text) =
    fields.Words (codes (without_last_zeros (bytes_of text)))
kept_value Varying (fields.Words text) = fields.Words (codes (bytes_of text))
kept_value kind field = field

-- what is kept of values, field by field
abbrev pub kept_values : List FieldKind → List Field → List Field
kept_values [] values = []
kept_values (kind ∷ kinds) [] = []
kept_values (kind ∷ kinds) (value ∷ values) = kept_value kind value ∷ kept_values kinds values
