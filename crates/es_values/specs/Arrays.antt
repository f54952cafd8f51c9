-- Elements of arrays, and arrays of values (ECMA-262 second edition, 15.4.4.4; that properties stand in
-- order of insertion, where changed ones stand, and that missing elements stay missing, are this
-- project's own).
use Rattle.std.specs.Prelude.{ℕ, ◌+◌, ◌-◌, ◌/◌, nat_lt, true, if◌then◌else◌, List, [], ◌∷◌, ◌++◌, length, Option, Some, option_map, option_to_list, is_some}
use Rattle.std.specs.List.{filter_map, flat_map, range_with_len}
use Rattle.std.specs.Option.{option_map_or}
use Rattle.std.specs.Map.{lookup}
use Rattle.bml_bytes.specs.Numerals.{decimal_digits}
use Rattle.bml_bytes.specs.Words.{is_same}
use Rattle.es_values.specs.declared.values.Value.{Value}
use Rattle.es_values.specs.Objects.{ObjectState}
use Rattle.es_values.specs.Heaps.{cut_at, index_of, new_object, with_property}

-- ---- elements

-- the element at a place, where there is one
abbrev pub element_at : List (List ℕ × Value) → ℕ → Option Value
element_at properties place = lookup (is_same (decimal_digits place)) properties

-- the elements below a place, in ascending place
abbrev pub elements_below : ℕ → List (List ℕ × Value) → List Value
elements_below count properties = filter_map (element_at properties) (range_with_len 0 count)

abbrev pub elements_of : ObjectState → List Value
elements_of object =
    option_map_or (λ count. elements_below count object.properties) object.array_length []

-- ---- values as elements

-- the array with these values as its elements from this place on
abbrev pub with_elements : ObjectState → ℕ → List Value → ObjectState
with_elements object place [] = object
with_elements object place (value ∷ values) =
    with_elements (with_property object (decimal_digits place) value) (place + 1) values

abbrev pub array_of : List Value → ObjectState
array_of values = with_elements (new_object true) 0 values

-- these values as the first elements, and no other elements; the length stays
abbrev pub with_first_elements : ObjectState → List Value → ObjectState
with_first_elements object values = record {
  array_length = object.array_length;
  properties = cut_at (length values) (with_elements object 0 values).properties;
}

-- ---- reverse

-- the property of this name has this value, if any
abbrev pub named : List ℕ → Option Value → Option (List ℕ × Value)
named name value = option_map (λ value. (name, value)) value

-- what stands instead of an element of an array of this length: its name with the value of the element
-- that is as far from the other end, if there is one; every other property stays
abbrev pub turned : ℕ → List (List ℕ × Value) → List ℕ × Value → Option (List ℕ × Value)
turned count properties property =
    option_map_or
    (λ place. if nat_lt place count
    then named property.0 (element_at properties (count - 1 - place)) else Some property)
    (index_of property.0) (Some property)

-- a new element at a place that had none
abbrev pub new_element : List (List ℕ × Value) → ℕ → ℕ → List (List ℕ × Value)
new_element properties place other =
    if is_some (element_at properties place) then []
    else option_to_list (named (decimal_digits place) (element_at properties other))

-- the new elements of two places that change their elements
abbrev pub new_elements : ℕ → List (List ℕ × Value) → ℕ → List (List ℕ × Value)
new_elements count properties place =
    new_element properties place (count - 1 - place)
    ++ new_element properties (count - 1 - place) place

-- Each name that stands before and behind keeps its place, and new ones go last, from the ends of the
-- array to its middle.
unfoldable pub turned_properties : ℕ → List (List ℕ × Value) → List (List ℕ × Value)
turned_properties count properties =
    filter_map (turned count properties) properties
    ++ flat_map (new_elements count properties) (range_with_len 0 (count / 2))

abbrev pub turned_object : ObjectState → ObjectState
turned_object object = record {
  array_length = object.array_length;
  properties =
      option_map_or (λ count. turned_properties count object.properties) object.array_length
      object.properties;
}
