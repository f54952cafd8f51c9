-- A device of the proofs: the codes of an array's text, counted by its properties in place of its places.
use Rattle.std.specs.Prelude.{ℕ, zero, suc, ◌+◌, nat_lt, if◌then◌else◌, List, [], ◌∷◌, length}
use Rattle.std.specs.Option.{option_map_or}
use Rattle.es_values.specs.declared.values.Value.{Value}
use Rattle.es_values.specs.Conversions.{element_text, text_at}
use Rattle.es_values.specs.Heaps.{index_of}

-- the codes of an element among the first `count`, and none of another property
abbrev pub element_codes : ℕ → List ℕ × Value → ℕ
element_codes count property =
    option_map_or (λ index. if nat_lt index count then length (element_text property.1) else 0)
    (index_of property.0) 0

-- those of some properties
abbrev pub elements_codes : ℕ → List (List ℕ × Value) → ℕ
elements_codes count [] = 0
elements_codes count (property ∷ properties) = element_codes count property + elements_codes count properties

-- the codes of the texts at the first places
abbrev pub texts_length : List (List ℕ × Value) → ℕ → ℕ
texts_length properties zero = 0
texts_length properties (suc place) = texts_length properties place + length (text_at properties place)
