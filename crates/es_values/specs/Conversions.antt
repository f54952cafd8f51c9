-- Conversions of values over a heap (ECMA-262 second edition, 9.3, 9.8 and 15.4.4.3). That an element which
-- is an object reads as `[object Object]` in its array's text is this project's own.
use Rattle.std.specs.Prelude.{ℕ, zero, suc, Bool, true, false, pos, List, [], ◌++◌, codes}
use Rattle.std.specs.Option.{option_map_or}
use Rattle.bml_bytes.specs.Numerals.{decimal_digits}
use Rattle.es_values.specs.declared.numbers.Num.{Num}
use Rattle.es_values.specs.declared.numbers.Num.TheVariants.{NotANumber, Whole}
use Rattle.es_values.specs.declared.values.Value.{Value}
use Rattle.es_values.specs.declared.values.Value.TheVariants.{Undefined, Null, Bool as Boolean, Number, Str, Object, Function, Host}
use Rattle.es_values.specs.Numerals.{number_of_text}
use Rattle.es_values.specs.Objects.{ObjectState}
use Rattle.es_values.specs.Values.{plain_text}
use Rattle.es_values.specs.Heaps.{value_in, object_at}

-- an element's part of its array's text
abbrev pub element_text : Value → List ℕ
element_text Undefined = []
element_text Null = []
element_text (Boolean b) = plain_text (Boolean b)
element_text (Number number) = plain_text (Number number)
element_text (Str text) = text
element_text (Object object) = plain_text (Object object)
element_text (Function number) = plain_text (Function number)
element_text (Host reference) = plain_text (Host reference)

-- the text of the element at a place
abbrev pub text_at : List (List ℕ × Value) → ℕ → List ℕ
text_at properties place = element_text (value_in properties (decimal_digits place))

-- the separator in front of an element, which the first one lacks
abbrev pub separator_at : List ℕ → ℕ → List ℕ
separator_at separator zero = []
separator_at separator (suc place) = separator

-- the texts of the first elements, so many of them, with the separator between them
unfoldable pub joined : List (List ℕ × Value) → List ℕ → ℕ → List ℕ
joined properties separator zero = []
joined properties separator (suc place) =
    joined properties separator place ++ (separator_at separator place ++ text_at properties place)

-- what `join` gives: of an object that is no array, nothing
abbrev pub join_of : ObjectState → List ℕ → List ℕ
join_of object separator =
    option_map_or (λ count. joined object.properties separator count) object.array_length []

-- an array's text is its `join(",")`
abbrev pub object_text : ObjectState → List ℕ
object_text object =
    option_map_or (λ count. joined object.properties (codes ",") count) object.array_length
    (codes "[object Object]")

-- ToString
abbrev pub text_of : List ObjectState → Value → List ℕ
text_of heap Undefined = plain_text Undefined
text_of heap Null = plain_text Null
text_of heap (Boolean b) = plain_text (Boolean b)
text_of heap (Number number) = plain_text (Number number)
text_of heap (Str text) = text
text_of heap (Object object) = object_text (object_at heap object)
text_of heap (Function number) = plain_text (Function number)
text_of heap (Host reference) = plain_text (Host reference)

abbrev pub number_of_truth : Bool → Num
number_of_truth true = Whole (pos 1)
number_of_truth false = Whole (pos 0)

-- ToNumber: objects, functions and host references by their text
abbrev pub number_of : List ObjectState → Value → Num
number_of heap Undefined = NotANumber
number_of heap Null = Whole (pos 0)
number_of heap (Boolean b) = number_of_truth b
number_of heap (Number number) = number
number_of heap (Str text) = number_of_text text
number_of heap (Object object) = number_of_text (object_text (object_at heap object))
number_of heap (Function number) = number_of_text (plain_text (Function number))
number_of heap (Host reference) = number_of_text (plain_text (Host reference))
