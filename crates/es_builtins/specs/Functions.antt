-- The built-in functions by their rows (ECMA-262 second edition, 15.1 to 15.9; their numbers and what
-- they are charged are this project's own).
use Rattle.std.specs.Prelude.{ℕ, ◌+◌, ◌==◌, false, if◌then◌else◌, pos, List, [], ◌∷◌, ◌++◌, find, length, map, take, Option, Some, None, option_and_then, codes}
use Rattle.std.specs.List.{sum_by}
use Rattle.std.specs.Option.{option_map_or}
use Rattle.bml_bytes.specs.Words.{is_same}
use Rattle.date_objects.specs.Dates.{date_object}
use Rattle.es_date.specs.Moments.{moment_of_fields}
use Rattle.es_values.specs.declared.numbers.Num.TheVariants.{NotANumber, Whole}
use Rattle.es_values.specs.declared.values.HostRef.TheVariants.{Document, Browser}
use Rattle.es_values.specs.declared.values.Value.{Value}
use Rattle.es_values.specs.declared.values.Value.TheVariants.{Undefined, Bool as Boolean, Number, Str, Object, Function, Host}
use Rattle.es_values.specs.Charges.{conversion_charge}
use Rattle.es_values.specs.Conversions.{number_of, text_of}
use Rattle.es_values.specs.Heaps.{new_object}
use Rattle.es_values.specs.Numbers.{is_not_a_number}
use Rattle.es_values.specs.Objects.{ObjectState}
use Rattle.es_values.specs.Values.{truth_of}
use Rattle.es_builtins.specs.declared.functions.BuiltIn.{BuiltIn}
use Rattle.es_builtins.specs.declared.functions.BuiltIn.TheVariants as the
use Rattle.es_builtins.specs.Arrays.{array_of_arguments}
use Rattle.es_builtins.specs.Dates.{date_fields}
use Rattle.es_builtins.specs.Numerals.{Radix, code_of_number, parsed, radix_of_number}
use Rattle.es_builtins.specs.Numerals.Radix.{Told}
use Rattle.es_builtins.specs.Rows.{Row, argument, argument_charge, number_argument, text_argument}
use Rattle.es_builtins.specs.Rows.Row.{NoRow, Gives}

-- ---- which there are

abbrev pub function_number : BuiltIn → ℕ
function_number the.Object = 0
function_number the.Array = 1
function_number the.String = 2
function_number the.Number = 3
function_number the.Boolean = 4
function_number the.IsNan = 5
function_number the.ParseInt = 6
function_number the.Date = 7

abbrev pub function_name : BuiltIn → List ℕ
function_name the.Object = codes "Object"
function_name the.Array = codes "Array"
function_name the.String = codes "String"
function_name the.Number = codes "Number"
function_name the.Boolean = codes "Boolean"
function_name the.IsNan = codes "isNaN"
function_name the.ParseInt = codes "parseInt"
function_name the.Date = codes "Date"

abbrev pub all_functions : List BuiltIn
all_functions =
    the.Object ∷ the.Array ∷ the.String ∷ the.Number ∷ the.Boolean ∷ the.IsNan ∷ the.ParseInt
    ∷ the.Date ∷ []

-- the function of a number, where there is one
abbrev pub function_of : ℕ → Option BuiltIn
function_of number = find (λ function. number == function_number function) all_functions

-- the function of a name, where there is one
abbrev pub function_named : List ℕ → Option BuiltIn
function_named name = find (λ function. is_same name (function_name function)) all_functions

-- what a built-in name means: a function, NaN, or what the host keeps
abbrev pub other_named : List ℕ → Option Value
other_named name =
    if is_same name (codes "NaN") then Some (Number NotANumber)
    else (if is_same name (codes "document") then Some (Host Document)
    else (if is_same name (codes "browser") then Some (Host Browser) else None))

abbrev pub value_named : List ℕ → Option Value
value_named name =
    option_map_or (λ function. Some (Function (function_number function))) (function_named name)
    (other_named name)

-- a member of a function that is read: `Number` has three, and no other function has any
abbrev pub number_member : List ℕ → Value
number_member name =
    if is_same name (codes "NaN") then Number NotANumber
    else (if is_same name (codes "MAX_VALUE") then Number (Whole (pos 2147483647))
    else (if is_same name (codes "MIN_VALUE") then Number (Whole (pos 1)) else Undefined))

abbrev pub function_member : ℕ → List ℕ → Value
function_member number name =
    if number == function_number the.Number then number_member name else Undefined

-- ---- rows

-- a new object, whose number is the next one
abbrev pub gives_object : List ObjectState → ℕ → ObjectState → Row
gives_object heap charge object = Gives charge (Object (length heap)) (heap ++ object ∷ [])

-- String: the argument's text, and the empty text without one
abbrev pub string_row : List ObjectState → List Value → Row
string_row heap [] = Gives 0 (Str []) heap
string_row heap (value ∷ more) = Gives (conversion_charge heap value) (Str (text_of heap value)) heap

-- Number: its number, and 0 without one
abbrev pub number_row : List ObjectState → List Value → Row
number_row heap [] = Gives 0 (Number (Whole (pos 0))) heap
number_row heap (value ∷ more) =
    Gives (conversion_charge heap value) (Number (number_of heap value)) heap

-- Date: the Date of the moment that the arguments tell, of which six count
abbrev pub date_row : List ObjectState → List Value → Row
date_row heap arguments =
    gives_object heap (sum_by (conversion_charge heap) (take 6 arguments))
    (date_object (option_and_then moment_of_fields (date_fields heap arguments)))

-- the base of parseInt
abbrev pub radix_argument : List ObjectState → List Value → Radix
radix_argument heap (text ∷ (radix ∷ more)) = radix_of_number (number_of heap radix)
radix_argument heap _ = Told

-- a call of a function
abbrev pub call_row : List ObjectState → List Value → BuiltIn → Row
call_row heap arguments the.Object = gives_object heap 0 (new_object false)
call_row heap arguments the.Array = gives_object heap 0 (array_of_arguments arguments)
call_row heap arguments the.String = string_row heap arguments
call_row heap arguments the.Number = number_row heap arguments
call_row heap arguments the.Boolean = Gives 0 (Boolean (truth_of (argument arguments 0))) heap
call_row heap arguments the.IsNan =
    Gives (argument_charge heap arguments 0)
    (Boolean (is_not_a_number (number_argument heap arguments 0))) heap
call_row heap arguments the.ParseInt =
    Gives (argument_charge heap arguments 0 + argument_charge heap arguments 1)
    (Number (parsed (text_argument heap arguments 0) (radix_argument heap arguments))) heap
call_row heap arguments the.Date = date_row heap arguments

-- a `new`: the same, and two of them make no object
abbrev pub new_row : List ObjectState → List Value → BuiltIn → Row
new_row heap arguments the.IsNan = NoRow
new_row heap arguments the.ParseInt = NoRow
new_row heap arguments function = call_row heap arguments function

abbrev pub row_or_none : (BuiltIn → Row) → Option BuiltIn → Row
row_or_none row None = NoRow
row_or_none row (Some function) = row function

abbrev pub function_row : List ObjectState → ℕ → List Value → Row
function_row heap number arguments = row_or_none (call_row heap arguments) (function_of number)

abbrev pub construction_row : List ObjectState → ℕ → List Value → Row
construction_row heap number arguments = row_or_none (new_row heap arguments) (function_of number)

-- String.fromCharCode: a text of the arguments' codes
abbrev pub codes_row : List ObjectState → List Value → Row
codes_row heap arguments =
    Gives (sum_by (conversion_charge heap) arguments)
    (Str (map (λ value. code_of_number (number_of heap value)) arguments)) heap
