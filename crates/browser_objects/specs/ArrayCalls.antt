-- How scripts read and write persistent arrays (after readPersistentArray and writePersistentArray
-- of BML, ARIB STD-B24 volume 2, in this project's own profile): how a value becomes that of a
-- field, and how the values of fields become a new array.
use Rattle.std.specs.Prelude.{ℕ, nat_lt, if◌then◌else◌, List, [], ◌∷◌, ◌++◌, length, map, Option, Some, None, option_and_then, option_map}
use Rattle.std.specs.List.{range_with_len}
use Rattle.bml_bytes.specs.Numerals.{decimal_digits}
use Rattle.es_values.specs.declared.numbers.Num.{Num}
use Rattle.es_values.specs.declared.numbers.Num.TheVariants.{NotANumber, Whole}
use Rattle.es_values.specs.declared.values.Value.{Value}
use Rattle.es_values.specs.declared.values.Value.TheVariants.{Bool as Truth, Number, Object, Str}
use Rattle.es_values.specs.Arrays.{array_of}
use Rattle.es_values.specs.Conversions.{number_of, text_of}
use Rattle.es_values.specs.Heaps.{object_at, value_in}
use Rattle.es_values.specs.Objects.{ObjectState}
use Rattle.es_values.specs.Values.{truth_of}
use Rattle.persistent_arrays.specs.declared.fields.Field.{Field}
use Rattle.persistent_arrays.specs.declared.fields.Field.TheVariants as fields
use Rattle.persistent_arrays.specs.declared.kinds.FieldKind.{FieldKind}
use Rattle.persistent_arrays.specs.declared.kinds.FieldKind.TheVariants.{Bit, Unsigned, Signed, Fixed, Varying}

-- ---- from fields to values

abbrev pub value_of_field : Field → Value
value_of_field (fields.Bit bit) = Truth bit
value_of_field (fields.Whole number) = Number (Whole number)
value_of_field (fields.Words text) = Str text

-- the objects with a new array of the values of fields, which is the last object
abbrev pub with_array_of : List ObjectState → List Field → List ObjectState
with_array_of heap values = heap ++ array_of (map value_of_field values) ∷ []

-- ---- from values to fields

-- a number is one of a field, but for NaN
abbrev pub field_of_number : Num → Option Field
field_of_number NotANumber = None
field_of_number (Whole number) = Some (fields.Whole number)

-- A text is one of a field where it has fewer than 256 codes. A longer one fits no field: a field
-- holds 255 bytes at most, and each code has one byte at least.
abbrev pub field_of_text : List ℕ → Option Field
field_of_text text = if nat_lt (length text) 256 then Some (fields.Words text) else None

-- A value as that of a field: it is converted to a truth, a number or a text, by the kind of the
-- field.
abbrev pub field_of : List ObjectState → FieldKind → Value → Option Field
field_of heap Bit value = Some (fields.Bit (truth_of value))
field_of heap (Unsigned size) value = field_of_number (number_of heap value)
field_of heap (Signed size) value = field_of_number (number_of heap value)
field_of heap (Fixed size) value = field_of_text (text_of heap value)
field_of heap Varying value = field_of_text (text_of heap value)

-- values as those of fields, one for each; none where one can't be, or there are more of one than
-- of the other
abbrev pub fields_of : List ObjectState → List FieldKind → List Value → Option (List Field)
fields_of heap [] [] = Some []
fields_of heap (kind ∷ kinds) (value ∷ values) =
    option_and_then (λ field. option_map (λ more. field ∷ more) (fields_of heap kinds values))
    (field_of heap kind value)
fields_of heap [] (value ∷ values) = None
fields_of heap (kind ∷ kinds) [] = None

-- the values at the first places of an array, so many of them; one that is missing is Undefined
abbrev pub values_at_places : ObjectState → ℕ → List Value
values_at_places object count =
    map (λ place. value_in object.properties (decimal_digits place)) (range_with_len 0 count)

-- all values of an array; none of an object that is no array
abbrev pub array_values : ObjectState → Option (List Value)
array_values object = option_map (values_at_places object) object.array_length

-- those of the array that a value is
abbrev pub values_of_array : List ObjectState → Value → Option (List Value)
values_of_array heap (Object object) = array_values (object_at heap object)
values_of_array heap other = None
