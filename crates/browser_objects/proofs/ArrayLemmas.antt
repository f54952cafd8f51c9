-- The values of an array as those of fields, one after another.
use Rattle.std.proofs.Common.{◌≡◌, ℕ, suc, List, [], ◌∷◌, ◌++◌, length, map, Option, Some, None, refl, sym, ap, ◌∙◌}
use Rattle.std.specs.Prelude.{All, option_and_then, option_map}
use Rattle.std.specs.List.{range_with_len}
use Rattle.std.specs.Option.{option_map_or}
use Rattle.std.proofs.lemmas.List.Elements.{All-cons, All-nil}
use Rattle.std.proofs.lemmas.List.FromFn.{length-map-range_with_len}
use Rattle.bml_bytes.specs.Numerals.{decimal_digits}
use Rattle.es_values.specs.declared.values.Value.{Value}
use Rattle.es_values.specs.Heaps.{IsLive, value_in}
use Rattle.es_values.specs.Objects.{ObjectState}
use Rattle.persistent_arrays.specs.declared.fields.Field.{Field}
use Rattle.persistent_arrays.specs.declared.fields.Field.TheVariants as fields
use Rattle.persistent_arrays.specs.declared.kinds.FieldKind.{FieldKind}
use Rattle.persistent_arrays.specs.Arrays.{array_in}
use Rattle.persistent_arrays.specs.Reading.{unpacked}
use Rattle.browser_objects.specs.ArrayCalls.{field_of, fields_of, value_of_field, values_at_places}
use Rattle.browser_objects.specs.Calls.{BrowserParts, CallOutcome, give_array, over, read_array, gives_nan, with_names}

-- the values of fields in an object's places from one on, for as many fields
abbrev pub fields_from : List ObjectState → ObjectState → ℕ → List FieldKind → Option (List Field)
fields_from heap object place kinds =
    fields_of heap kinds (map (λ place. value_in object.properties (decimal_digits place)) (range_with_len place (length kinds)))

-- those that were made, in front of those that are left
abbrev pub behind : List Field → Option (List Field) → Option (List Field)
behind made left = option_map (λ more. made ++ more) left

-- ---- another count of values

fields-other : (heap : List ObjectState) (kinds : List FieldKind) (values : List Value) → (length values ≡ length kinds → ⊥) → fields_of heap kinds values ≡ None
fields-other heap [] [] h = absurd (h refl)
fields-other heap [] (value ∷ values) h = refl
fields-other heap (kind ∷ kinds) [] h = refl
fields-other heap (kind ∷ kinds) (value ∷ values) h = by (field_of heap kind value) (fields-other heap kinds values (λ e. h (ap suc e)))
  where
    by : (made : Option Field) → fields_of heap kinds values ≡ None → option_and_then (λ field. option_map (λ more. field ∷ more) (fields_of heap kinds values)) made ≡ None
    by None e = refl
    by (Some field) e = ap (option_map (λ (more : List Field). field ∷ more)) e

pub other-size : (heap : List ObjectState) (kinds : List FieldKind) (found : Option (List Value)) (object : ObjectState) (size : ℕ)
    → found ≡ Some (values_at_places object size) → (size ≡ length kinds → ⊥) → None ≡ option_and_then (fields_of heap kinds) found
other-size heap kinds found object size e h =
    let count : length (values_at_places object size) ≡ size = length-map-range_with_len _ 0 size in
    sym (ap (option_and_then (fields_of heap kinds)) e ∙ fields-other heap kinds (values_at_places object size) (λ g. h (sym count ∙ g)))

-- ---- live values

pub fields-live : (heap : List ObjectState) (found : List Field) → All (IsLive heap) (map value_of_field found)
fields-live heap [] = All-nil (IsLive heap)
fields-live heap (fields.Bit bit ∷ found) = All-cons (IsLive heap) (value_of_field (fields.Bit bit)) (map value_of_field found) tt (fields-live heap found)
fields-live heap (fields.Whole number ∷ found) = All-cons (IsLive heap) (value_of_field (fields.Whole number)) (map value_of_field found) tt (fields-live heap found)
fields-live heap (fields.Words text ∷ found) = All-cons (IsLive heap) (value_of_field (fields.Words text)) (map value_of_field found) tt (fields-live heap found)

-- ---- what the first two arguments name

-- what is done with what they name, where it was found
abbrev IsNamed : List Value → List ObjectState → Option (ℕ × List FieldKind) → Type 0
IsNamed arguments heap found = (call : ℕ → List FieldKind → CallOutcome) (s : BrowserParts)
    → with_names call arguments heap s ≡ option_map_or (λ names. call names.0 names.1) found (over heap (gives_nan s))

module _ (arguments : List Value) (heap : List ObjectState) (found : Option (ℕ × List FieldKind)) (slot : ℕ) (kinds : List FieldKind) (named : IsNamed arguments heap found) (is : found ≡ Some (slot, kinds)) where
  call-named : (call : ℕ → List FieldKind → CallOutcome) (s : BrowserParts) → with_names call arguments heap s ≡ call slot kinds
  call-named call s = named call s ∙ ap (λ (names : Option (ℕ × List FieldKind)). option_map_or (λ names. call names.0 names.1) names (over heap (gives_nan s))) is

  pub read-named : (area : List ℕ) (s : BrowserParts) → area ≡ s.area → read_array arguments heap s ≡ give_array (unpacked kinds (array_in area slot)) heap s
  read-named area s e =
      call-named (λ slot kinds. give_array (unpacked kinds (array_in s.area slot)) heap s) s
      ∙ ap (λ (area : List ℕ). give_array (unpacked kinds (array_in area slot)) heap s) (sym e)
