-- A device of the proofs: the slots in which the properties of an object stand in order of insertion, some of
-- them empty, and an index of the names' places among them.
use Rattle.std.specs.Prelude.{◌≡◌, ℕ, suc, ◌+◌, nat_le, Bool, false, if◌then◌else◌, List, [], ◌∷◌, map, Option, Some, None, option_map, is_some}
use Rattle.std.specs.Option.{option_map_or}
use Rattle.std.specs.List.{filter_map, IsDistinct}
use Rattle.std.specs.Map.{lookup}
use Rattle.bml_bytes.specs.Numerals.{decimal_digits}
use Rattle.bml_bytes.specs.Words.{is_same}
use Rattle.es_values.specs.declared.values.Value.{Value}
use Rattle.es_values.specs.Heaps.{index_of}

-- the properties that stand in the slots
abbrev pub standing : List (Option (List ℕ × Value)) → List (List ℕ × Value)
standing slots = filter_map (λ slot. slot) slots

-- no two of the properties have the same name
abbrev pub HaveOwnNames : List (List ℕ × Value) → Type 0
HaveOwnNames properties = IsDistinct is_same (map (λ property. property.0) properties)

-- the slot has a property of this name
abbrev pub is_named : List ℕ → Option (List ℕ × Value) → Bool
is_named name slot = option_map_or (λ property. is_same name property.0) slot false

-- the place of the first slot that has a property of this name
abbrev pub place_of : List ℕ → List (Option (List ℕ × Value)) → Option ℕ
place_of name [] = None
place_of name (slot ∷ slots) =
    if is_named name slot then Some 0 else option_map (λ place. suc place) (place_of name slots)

-- the index gives each name that stands its place, and no other name one
pub record Indexes (places : List (List ℕ × ℕ)) (slots : List (Option (List ℕ × Value))) : Type 0 where
  pub found : (name : List ℕ) → lookup (is_same name) places ≡ place_of name slots
  pub distinct : HaveOwnNames (standing slots)

-- the index has a place for each name that stands, whichever it is, and for no other name
abbrev pub IsIndexOfNames : List (List ℕ × ℕ) → List (List ℕ × Value) → Type 0
IsIndexOfNames places properties =
    (name : List ℕ)
    → is_some (lookup (is_same name) places) ≡ is_some (lookup (is_same name) properties)

-- the values as elements from this place on, with their names
abbrev pub placed : ℕ → List Value → List (List ℕ × Value)
placed place [] = []
placed place (value ∷ values) = (decimal_digits place, value) ∷ placed (place + 1) values

-- the name is that of an element at this place or behind it
abbrev pub is_element_name : ℕ → List ℕ → Bool
is_element_name place name = option_map_or (nat_le place) (index_of name) false
