-- Values of scripts (ECMA-262 second edition, 8, 9.2, 9.8 and 11.4.3). Function numbers, host references
-- and the texts `[function]` and `[object]` are this project's own.
use Rattle.std.specs.Prelude.{ℕ, ◌<◌, ◌==◌, nat_lt, Bool, true, false, not, ◌&&◌, unsigned_abs, List, length, Option, Some, None, codes}
use Rattle.bml_bytes.specs.Numerals.{signed_decimal_digits}
use Rattle.bml_bytes.specs.Words.{is_same}
use Rattle.es_values.specs.Numbers.{is_equal_number}
use Rattle.es_values.specs.declared.numbers.Num.{Num}
use Rattle.es_values.specs.declared.numbers.Num.TheVariants.{NotANumber, Whole}
use Rattle.es_values.specs.declared.values.HostRef.{HostRef}
use Rattle.es_values.specs.declared.values.HostRef.TheVariants.{Document, Browser, Ureg, Greg, Event, Node, Style}
use Rattle.es_values.specs.declared.values.Value.{Value}
use Rattle.es_values.specs.declared.values.Value.TheVariants.{Undefined, Null, Bool as Boolean, Number, Str, Object, Function, Host}

-- ToBoolean
abbrev pub truth_of_number : Num → Bool
truth_of_number NotANumber = false
truth_of_number (Whole a) = not (unsigned_abs a == 0)

abbrev pub truth_of : Value → Bool
truth_of Undefined = false
truth_of Null = false
truth_of (Boolean b) = b
truth_of (Number number) = truth_of_number number
truth_of (Str text) = nat_lt 0 (length text)
truth_of (Object _) = true
truth_of (Function _) = true
truth_of (Host _) = true

-- what `typeof` gives
abbrev pub type_name : Value → List ℕ
type_name Undefined = codes "undefined"
type_name Null = codes "object"
type_name (Boolean _) = codes "boolean"
type_name (Number _) = codes "number"
type_name (Str _) = codes "string"
type_name (Object _) = codes "object"
type_name (Function _) = codes "function"
type_name (Host _) = codes "object"

-- the decimal text of a number
abbrev pub number_text : Num → List ℕ
number_text NotANumber = codes "NaN"
number_text (Whole a) = signed_decimal_digits a

abbrev pub truth_text : Bool → List ℕ
truth_text true = codes "true"
truth_text false = codes "false"

-- the text of a value, where an object isn't looked into
abbrev pub plain_text : Value → List ℕ
plain_text Undefined = codes "undefined"
plain_text Null = codes "null"
plain_text (Boolean b) = truth_text b
plain_text (Number number) = number_text number
plain_text (Str text) = text
plain_text (Object _) = codes "[object Object]"
plain_text (Function _) = codes "[function]"
plain_text (Host _) = codes "[object]"

-- two references name the same thing
abbrev pub is_same_reference : HostRef → HostRef → Bool
is_same_reference Document Document = true
is_same_reference Browser Browser = true
is_same_reference Ureg Ureg = true
is_same_reference Greg Greg = true
is_same_reference Event Event = true
is_same_reference (Node a) (Node b) = a == b
is_same_reference (Style a s) (Style b t) = (a == b) && (s == t)
is_same_reference _ _ = false

abbrev pub is_same_truth : Bool → Bool → Bool
is_same_truth true b = b
is_same_truth false b = not b

-- whether values of one kind are equal: by value, and objects, functions and host references where they
-- are the same one; none where the kinds differ
abbrev pub equality_in_kind : Value → Value → Option Bool
equality_in_kind Undefined Undefined = Some true
equality_in_kind Null Null = Some true
equality_in_kind (Boolean a) (Boolean b) = Some (is_same_truth a b)
equality_in_kind (Number a) (Number b) = Some (is_equal_number a b)
equality_in_kind (Str s) (Str t) = Some (is_same s t)
equality_in_kind (Object a) (Object b) = Some (a == b)
equality_in_kind (Function a) (Function b) = Some (a == b)
equality_in_kind (Host a) (Host b) = Some (is_same_reference a b)
equality_in_kind _ _ = None

-- an object's number is below the number of objects
abbrev pub IsLiveAmong : ℕ → Value → Type 0
IsLiveAmong count (Object number) = number < count
IsLiveAmong count _ = Unit {0}

-- neither an object nor a function: what a host's property may be
abbrev pub is_plain : Value → Bool
is_plain (Object _) = false
is_plain (Function _) = false
is_plain _ = true

abbrev pub is_function : ℕ → Value → Bool
is_function number (Function other) = number == other
is_function number _ = false
