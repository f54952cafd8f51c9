-- Arrays of arguments, and the order of `sort` (ECMA-262 second edition, 15.4.2 and 15.4.4.5; that elements
-- compare by their texts as they are at the start is this project's own).
use Rattle.std.specs.Prelude.{Bool, true, false, not, if◌then◌else◌, List, [], ◌∷◌, ◌++◌, filter}
use Rattle.std.specs.Ordering.{nat_cmp}
use Rattle.std.specs.declared.cmp.Ordering.{Ordering}
use Rattle.std.specs.declared.cmp.Ordering.TheVariants.{Less}
use Rattle.std.specs.Cmp.Lexicographic.{slice_cmp}
use Rattle.es_values.specs.declared.values.Value.{Value}
use Rattle.es_values.specs.declared.values.Value.TheVariants.{Undefined, Number}
use Rattle.es_values.specs.Arrays.{array_of, elements_of, with_first_elements}
use Rattle.es_values.specs.Objects.{ObjectState}
use Rattle.es_values.specs.Heaps.{new_object, with_length}
use Rattle.es_values.specs.Conversions.{text_of}

-- the array that arguments make: one number is its length, which is 0 where that is none; else they are
-- its elements
abbrev pub array_of_arguments : List Value → ObjectState
array_of_arguments (Number number ∷ []) = with_length (new_object true) number
array_of_arguments arguments = array_of arguments

-- ---- sort

abbrev pub is_less : Ordering → Bool
is_less Less = true
is_less _ = false

-- the text of the second value comes before that of the first
abbrev pub comes_after : List ObjectState → Value → Value → Bool
comes_after heap value other =
    is_less (slice_cmp nat_cmp (text_of heap other) (text_of heap value))

-- a value among sorted ones: behind those that come before it, and in front of those of equal text
abbrev pub put_among : List ObjectState → Value → List Value → List Value
put_among heap value [] = value ∷ []
put_among heap value (other ∷ others) =
    if comes_after heap value other then other ∷ put_among heap value others
    else value ∷ (other ∷ others)

-- values by their texts, those of equal text in the order in which they stand
abbrev pub by_text : List ObjectState → List Value → List Value
by_text heap [] = []
by_text heap (value ∷ values) = put_among heap value (by_text heap values)

abbrev pub is_undefined : Value → Bool
is_undefined Undefined = true
is_undefined _ = false

-- and Undefined behind all others
unfoldable pub sorted : List ObjectState → List Value → List Value
sorted heap values =
    by_text heap (filter (λ value. not (is_undefined value)) values) ++ filter is_undefined values

-- the array with its elements sorted
abbrev pub sorted_object : List ObjectState → ObjectState → ObjectState
sorted_object heap object = with_first_elements object (sorted heap (elements_of object))
