-- What a put does, and the operators `+`, `==` and `<` of values over a heap (ECMA-262 second edition,
-- 8.6.2.2, 15.4.5.1, 11.6.1, 11.8.5 and 11.9.3). That functions and host references are no objects there, and
-- that `<` compares texts only where both values are texts, are this project's own.
use Rattle.std.specs.Prelude.{ℕ, ◌||◌, Bool, true, false, if◌then◌else◌, List, ◌++◌, Option, Some, None, unwrap_or}
use Rattle.std.specs.Ordering.{nat_cmp}
use Rattle.std.specs.declared.cmp.Ordering.{Ordering}
use Rattle.std.specs.declared.cmp.Ordering.TheVariants.{Less, Equal, Greater}
use Rattle.std.specs.Cmp.Lexicographic.{slice_cmp}
use Rattle.es_values.specs.declared.numbers.Num.{Num}
use Rattle.es_values.specs.declared.values.Value.{Value}
use Rattle.es_values.specs.declared.values.Value.TheVariants.{Undefined, Null, Bool as Boolean, Number, Str, Object}
use Rattle.es_values.specs.Numbers.{sum_of, is_equal_number, is_less_number, is_not_a_number}
use Rattle.es_values.specs.Numerals.{number_of_text}
use Rattle.es_values.specs.Objects.{ObjectState}
use Rattle.es_values.specs.Values.{equality_in_kind}
use Rattle.es_values.specs.Heaps.{object_at, is_array_length, with_length, with_object, with_property}
use Rattle.es_values.specs.Conversions.{number_of, number_of_truth, object_text, text_of}

-- Puts

-- the object after a put: a number for an array's length, and any value for every other name
abbrev pub put_in : List ObjectState → ObjectState → List ℕ → Value → ObjectState
put_in heap object name value =
    if is_array_length object name then with_length object (number_of heap value)
    else with_property object name value

-- the heap after a put to one of its objects
abbrev pub with_put : List ObjectState → ℕ → List ℕ → Value → List ObjectState
with_put heap object name value =
    with_object heap object (put_in heap (object_at heap object) name value)

-- Addition

abbrev pub is_textual : Value → Bool
is_textual (Str _) = true
is_textual (Object _) = true
is_textual _ = false

-- `+` joins texts where one side, after objects became texts, is a text
abbrev pub adds_texts : Value → Value → Bool
adds_texts left right = is_textual left || is_textual right

abbrev pub addition_of : List ObjectState → Value → Value → Value
addition_of heap left right =
    if adds_texts left right then Str (text_of heap left ++ text_of heap right)
    else Number (sum_of (number_of heap left) (number_of heap right))

-- Equality

-- a Bool as its number, and an object as its text
abbrev pub reduced : List ObjectState → Value → Value
reduced heap (Boolean b) = Number (number_of_truth b)
reduced heap (Object object) = Str (object_text (object_at heap object))
reduced heap value = value

-- of unlike kinds: Null equals Undefined, a text beside a number becomes one, and no others are equal
abbrev pub equality_of_unlike : Value → Value → Bool
equality_of_unlike Undefined Null = true
equality_of_unlike Null Undefined = true
equality_of_unlike (Number a) (Str text) = is_equal_number a (number_of_text text)
equality_of_unlike (Str text) (Number b) = is_equal_number (number_of_text text) b
equality_of_unlike _ _ = false

abbrev pub equality_of_reduced : Value → Value → Bool
equality_of_reduced left right =
    unwrap_or (equality_in_kind left right) (equality_of_unlike left right)

-- `==`
abbrev pub is_equal : List ObjectState → Value → Value → Bool
is_equal heap left right =
    unwrap_or (equality_in_kind left right) (equality_of_reduced (reduced heap left) (reduced heap right))

-- Order

abbrev pub order_of_numbers : Num → Num → Option Ordering
order_of_numbers left right =
    if is_not_a_number left || is_not_a_number right then None
    else (if is_less_number left right then Some Less
    else (if is_less_number right left then Some Greater else Some Equal))

-- how `<` and its kin find two values: two texts by their codes, and others by their numbers; none beside
-- NaN
abbrev pub order_of : List ObjectState → Value → Value → Option Ordering
order_of heap (Str text) (Str other) = Some (slice_cmp nat_cmp text other)
order_of heap left right = order_of_numbers (number_of heap left) (number_of heap right)
