-- The built-in methods by their rows: those of texts, numbers, arrays, Dates and the function String,
-- and the two of nearly every value (ECMA-262 second edition, 15.2 to 15.9; what they are charged is
-- this project's own).
use Rattle.std.specs.Prelude.{ℕ, ◌+◌, ◌*◌, ◌==◌, max, if◌then◌else◌, List, [], ◌∷◌, find, length, map, Option, option_map, codes, slice_get}
use Rattle.std.specs.List.{sum_by}
use Rattle.std.specs.Option.{option_map_or}
use Rattle.es_values.specs.declared.numbers.Num.{Num}
use Rattle.es_values.specs.declared.values.Value.{Value}
use Rattle.es_values.specs.declared.values.Value.TheVariants.{Undefined, Null, Bool as Boolean, Number, Str, Object, Function, Host}
use Rattle.es_values.specs.Arrays.{array_of, elements_of, turned_object}
use Rattle.es_values.specs.Charges.{begun_sixteens, conversion_charge, join_charge}
use Rattle.es_values.specs.Conversions.{join_of, number_of, text_of}
use Rattle.es_values.specs.Heaps.{object_at, with_object}
use Rattle.es_values.specs.Objects.{ObjectState}
use Rattle.es_builtins.specs.declared.functions.BuiltIn.TheVariants as built
use Rattle.date_objects.specs.Dates.{is_date, moment_in}
use Rattle.es_builtins.specs.declared.methods.DatePart.{DatePart}
use Rattle.es_builtins.specs.declared.methods.DatePart.TheVariants as parts
use Rattle.es_builtins.specs.declared.methods.Method.{Method}
use Rattle.es_builtins.specs.declared.methods.Method.TheVariants as the
use Rattle.bml_bytes.specs.Words.{is_same}
use Rattle.es_builtins.specs.Arrays.{sorted_object}
use Rattle.es_builtins.specs.Dates.{part_given, part_name}
use Rattle.es_builtins.specs.Functions.{codes_row, function_number, gives_object}
use Rattle.es_builtins.specs.Numerals.{base_or_ten, number_text_in}
use Rattle.es_builtins.specs.Rows.{Row, argument_charge, number_argument, text_argument}
use Rattle.es_builtins.specs.Rows.Row.{NoRow, Gives}
use Rattle.es_builtins.specs.Texts.{character_at, code_at, first_place, last_place, least_place, number_of_place, split, substring}

-- ---- which there are

abbrev pub method_name : Method → List ℕ
method_name the.CharAt = codes "charAt"
method_name the.CharCodeAt = codes "charCodeAt"
method_name the.IndexOf = codes "indexOf"
method_name the.LastIndexOf = codes "lastIndexOf"
method_name the.Substring = codes "substring"
method_name the.Split = codes "split"
method_name the.FromCharCode = codes "fromCharCode"
method_name the.Join = codes "join"
method_name the.Reverse = codes "reverse"
method_name the.Sort = codes "sort"
method_name the.ToText = codes "toString"
method_name the.ValueOf = codes "valueOf"
method_name (the.Get part) = part_name part

abbrev pub all_methods : List Method
all_methods =
    the.CharAt ∷ the.CharCodeAt ∷ the.IndexOf ∷ the.LastIndexOf ∷ the.Substring ∷ the.Split
    ∷ the.FromCharCode ∷ the.Join ∷ the.Reverse ∷ the.Sort ∷ the.ToText ∷ the.ValueOf
    ∷ the.Get parts.FullYear ∷ the.Get parts.Month ∷ the.Get parts.Date ∷ the.Get parts.Day
    ∷ the.Get parts.Hours ∷ the.Get parts.Minutes ∷ the.Get parts.Seconds ∷ []

-- the method of a name, where there is one
abbrev pub method_of : List ℕ → Option Method
method_of name = find (λ method. is_same name (method_name method)) all_methods

-- ---- texts

-- the text's length times the begun sixteens of what is looked for, and at least the text's length
abbrev pub search_charge : List ℕ → List ℕ → ℕ
search_charge text wanted =
    begun_sixteens (length text * max 1 (begun_sixteens (length wanted)))

abbrev pub two_charges : List ObjectState → List Value → ℕ
two_charges heap arguments = argument_charge heap arguments 0 + argument_charge heap arguments 1

abbrev pub last_argument_as : {A : Type 0} → (Value → A) → List Value → ℕ → Option A
last_argument_as f arguments place = option_map f (slice_get arguments place)

abbrev pub text_row : List ObjectState → List ℕ → List Value → Method → Row
text_row heap text arguments the.CharAt =
    Gives (argument_charge heap arguments 0)
    (Str (character_at text (number_argument heap arguments 0))) heap
text_row heap text arguments the.CharCodeAt =
    Gives (argument_charge heap arguments 0)
    (Number (code_at text (number_argument heap arguments 0))) heap
text_row heap text arguments the.IndexOf =
    let wanted = text_argument heap arguments 0 in
    Gives (two_charges heap arguments + search_charge text wanted)
    (Number (number_of_place
    (first_place wanted text (least_place (number_argument heap arguments 1))))) heap
text_row heap text arguments the.LastIndexOf =
    let wanted = text_argument heap arguments 0 in
    Gives (two_charges heap arguments + search_charge text wanted)
    (Number (number_of_place (last_place wanted text (number_argument heap arguments 1)))) heap
text_row heap text arguments the.Substring =
    let part =
    substring text (number_argument heap arguments 0)
    (option_map (number_of heap) (slice_get arguments 1))
    in
    Gives (two_charges heap arguments + begun_sixteens (length part)) (Str part) heap
text_row heap text arguments the.Split =
    let parts = split text (option_map (text_of heap) (slice_get arguments 0)) in
    gives_object heap (argument_charge heap arguments 0 + begun_sixteens (length text))
    (array_of (map (λ part. Str part) parts))
text_row heap text arguments the.ToText = Gives 0 (Str text) heap
text_row heap text arguments the.ValueOf = Gives 0 (Str text) heap
text_row heap text arguments _ = NoRow

-- ---- numbers

-- without a base, ten
abbrev pub base_argument : List ObjectState → List Value → ℕ
base_argument heap arguments =
    option_map_or (λ value. base_or_ten (number_of heap value)) (slice_get arguments 0) 10

abbrev pub digits_row : List ObjectState → Num → List Value → Method → Row
digits_row heap number arguments the.ToText =
    Gives (argument_charge heap arguments 0)
    (Str (number_text_in (base_argument heap arguments) number)) heap
digits_row heap number arguments the.ValueOf = Gives 0 (Number number) heap
digits_row heap number arguments _ = NoRow

-- ---- every value but Undefined, Null and host references: its text, and itself

abbrev pub plain_row : List ObjectState → Value → Method → Row
plain_row heap base the.ToText =
    Gives (conversion_charge heap base) (Str (text_of heap base)) heap
plain_row heap base the.ValueOf = Gives 0 base heap
plain_row heap base _ = NoRow

-- ---- arrays

-- the separator of `join`, a `,` without one
abbrev pub separator_argument : List ObjectState → List Value → List ℕ
separator_argument heap arguments =
    option_map_or (text_of heap) (slice_get arguments 0) (codes ",")

-- the conversions of the elements, and the array's length
abbrev pub sort_charge : List ObjectState → ObjectState → ℕ → ℕ
sort_charge heap object count =
    sum_by (conversion_charge heap) (elements_of object)
    + begun_sixteens count

-- `sort` with an argument can't be called
abbrev pub sort_row : List ObjectState → ℕ → ObjectState → ℕ → List Value → Row
sort_row heap number object count [] =
    Gives (sort_charge heap object count) (Object number)
    (with_object heap number (sorted_object heap object))
sort_row heap number object count (value ∷ more) = NoRow

abbrev pub array_row : List ObjectState → ℕ → ObjectState → ℕ → List Value → Method → Row
array_row heap number object count arguments the.Join =
    let separator = separator_argument heap arguments in
    Gives (argument_charge heap arguments 0 + join_charge object separator)
    (Str (join_of object separator)) heap
array_row heap number object count arguments the.Reverse =
    Gives (begun_sixteens count) (Object number) (with_object heap number (turned_object object))
array_row heap number object count arguments the.Sort =
    sort_row heap number object count arguments
array_row heap number object count arguments method = plain_row heap (Object number) method

-- ---- objects

-- a part of a Date, which any object with both properties is, also an array
abbrev pub part_row : List ObjectState → ObjectState → DatePart → Row
part_row heap object part =
    if is_date object then Gives 0 (Number (part_given part (moment_in object))) heap else NoRow

-- an object that is no array has no others than these and the two
abbrev pub object_row : List ObjectState → ℕ → ObjectState → List Value → Method → Row
object_row heap number object arguments (the.Get part) = part_row heap object part
object_row heap number object arguments method =
    option_map_or (λ count. array_row heap number object count arguments method)
    object.array_length (plain_row heap (Object number) method)

-- ---- functions

-- of the functions `String` has one more
abbrev pub function_method_row : List ObjectState → ℕ → List Value → Method → Row
function_method_row heap number arguments the.FromCharCode =
    if number == function_number built.String then codes_row heap arguments else NoRow
function_method_row heap number arguments method = plain_row heap (Function number) method

-- ---- all

abbrev pub base_row : List ObjectState → Value → List Value → Method → Row
base_row heap Undefined arguments method = NoRow
base_row heap Null arguments method = NoRow
base_row heap (Boolean truth) arguments method = plain_row heap (Boolean truth) method
base_row heap (Number number) arguments method = digits_row heap number arguments method
base_row heap (Str text) arguments method = text_row heap text arguments method
base_row heap (Object number) arguments method =
    object_row heap number (object_at heap number) arguments method
base_row heap (Function number) arguments method =
    function_method_row heap number arguments method
base_row heap (Host reference) arguments method = NoRow

abbrev pub method_row : List ObjectState → Value → List ℕ → List Value → Row
method_row heap base name arguments =
    option_map_or (base_row heap base arguments) (method_of name) NoRow
