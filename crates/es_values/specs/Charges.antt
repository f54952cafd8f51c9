-- The steps that conversions and operators are charged, in begun sixteens of a count. (This project's own.)
use Rattle.std.specs.Prelude.{◌≡◌, ℕ, ◌+◌, ◌-◌, ◌/◌, ◌&&◌, min, nat_le, is_some, Bool, if◌then◌else◌, List, length, Option, Some, None, codes}
use Rattle.std.specs.Option.{option_map_or}
use Rattle.es_values.specs.declared.budgets.Budget.{Budget}
use Rattle.es_values.specs.declared.values.Value.{Value}
use Rattle.es_values.specs.declared.values.Value.TheVariants.{Str, Object}
use Rattle.es_values.specs.Objects.{ObjectState}
use Rattle.es_values.specs.Values.{equality_in_kind}
use Rattle.es_values.specs.Heaps.{object_at, is_array_length, cut_count}
use Rattle.es_values.specs.Conversions.{joined, number_of, text_of}
use Rattle.es_values.specs.Operators.{adds_texts, reduced}

-- 1 for each sixteen that a count begins
abbrev pub begun_sixteens : ℕ → ℕ
begun_sixteens count = (count + 15) / 16

-- an array that is joined: its length and the codes of the result; nothing for an object that is none
abbrev pub join_charge : ObjectState → List ℕ → ℕ
join_charge object separator =
    option_map_or (λ count. begun_sixteens (count + length (joined object.properties separator count)))
    object.array_length 0

-- a value that becomes a text, or a number by way of it
abbrev pub conversion_charge : List ObjectState → Value → ℕ
conversion_charge heap (Object object) = join_charge (object_at heap object) (codes ",")
conversion_charge heap _ = 0

-- a put: of an array's length the conversion, and the elements that go
abbrev pub put_charge : List ObjectState → ℕ → List ℕ → Value → ℕ
put_charge heap object name value =
    if is_array_length (object_at heap object) name
    then conversion_charge heap value
    + begun_sixteens (cut_count (object_at heap object) (number_of heap value))
    else 0

-- `+` of texts: the conversions, and the codes of the result
abbrev pub addition_charge : List ObjectState → Value → Value → ℕ
addition_charge heap left right =
    if adds_texts left right
    then conversion_charge heap left + conversion_charge heap right
    + begun_sixteens (length (text_of heap left) + length (text_of heap right))
    else 0

-- how many codes a text has
abbrev pub text_size : Value → Option ℕ
text_size (Str text) = Some (length text)
text_size _ = None

abbrev pub charge_of_shorter : Option ℕ → Option ℕ → ℕ
charge_of_shorter (Some size) (Some other) = begun_sixteens (min size other)
charge_of_shorter (Some size) None = 0
charge_of_shorter None _ = 0

-- two texts that are compared: the shorter length
abbrev pub comparison_charge : Value → Value → ℕ
comparison_charge left right = charge_of_shorter (text_size left) (text_size right)

-- `==`: where the kinds differ the conversions, and then a comparison of texts
abbrev pub equality_charge : List ObjectState → Value → Value → ℕ
equality_charge heap left right =
    if is_some (equality_in_kind left right) then comparison_charge left right
    else conversion_charge heap left + conversion_charge heap right
    + comparison_charge (reduced heap left) (reduced heap right)

-- `<` and its kin: a comparison of texts, or the conversions
abbrev pub order_charge : List ObjectState → Value → Value → ℕ
order_charge heap left right =
    if is_some (text_size left) && is_some (text_size right) then comparison_charge left right
    else conversion_charge heap left + conversion_charge heap right

-- the charge is taken where it is left, and else nothing is
pub record Charges (charge : ℕ) (old : Budget) (taken : Bool) (new : Budget) : Type 0 where
  pub answer : taken ≡ nat_le charge old.left
  pub left : new.left ≡ (if nat_le charge old.left then old.left - charge else old.left)
