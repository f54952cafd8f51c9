-- A device of the proofs: what `reverse` does to the elements that stand, one after the other.
use Rattle.std.specs.Prelude.{ℕ, ◌-◌, nat_lt, if◌then◌else◌, List, [], ◌∷◌, Option, Some, None, is_some}
use Rattle.std.specs.List.{filter_map, range_with_len}
use Rattle.std.specs.Map.{remove_entry, set_value}
use Rattle.std.specs.Option.{option_map_or}
use Rattle.bml_bytes.specs.Numerals.{decimal_digits}
use Rattle.bml_bytes.specs.Words.{is_same}
use Rattle.es_values.specs.declared.values.Value.{Value}
use Rattle.es_values.specs.Arrays.{element_at, named}
use Rattle.es_values.specs.Heaps.{index_of}

-- the properties with another value for a name, or without it
abbrev pub changed : List (List ℕ × Value) → List ℕ × Option Value → List (List ℕ × Value)
changed properties (name, Some value) = set_value (is_same name) properties value
changed properties (name, None) = remove_entry (is_same name) properties

abbrev pub all_changed : List (List ℕ × Value) → List (List ℕ × Option Value) → List (List ℕ × Value)
all_changed properties [] = properties
all_changed properties (change ∷ changes) = all_changed (changed properties change) changes

-- an element that stands gets the value of the one that is as far from the other end, if there is one
abbrev pub change_at : ℕ → List (List ℕ × Value) → ℕ → Option (List ℕ × Option Value)
change_at count properties place =
    if is_some (element_at properties place)
    then Some (decimal_digits place, element_at properties (count - 1 - place)) else None

abbrev pub changes_below : ℕ → ℕ → List (List ℕ × Value) → List (List ℕ × Option Value)
changes_below count place properties = filter_map (change_at count properties) (range_with_len 0 place)

-- what stands instead of a property once the elements below a place are changed
abbrev pub turned_below : ℕ → ℕ → List (List ℕ × Value) → List ℕ × Value → Option (List ℕ × Value)
turned_below count bound properties property =
    option_map_or
    (λ place. if nat_lt place bound
    then named property.0 (element_at properties (count - 1 - place)) else Some property)
    (index_of property.0) (Some property)
