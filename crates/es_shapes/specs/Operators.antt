-- What operators give of values, and what is charged for them (ECMA-262 second edition, 11.3 to 11.10, and third
-- edition, 11.9.4 to 11.9.6, for `===` and `!==`; the charges are this project's own).
use Rattle.std.specs.Prelude.{ℕ, ◌+◌, Bool, true, false, not, if◌then◌else◌, pos, negsuc, List, Option, Some, is_some, unwrap_or}
use Rattle.std.specs.declared.cmp.Ordering.{Ordering}
use Rattle.std.specs.declared.cmp.Ordering.TheVariants.{Less, Equal, Greater}
use Rattle.es_values.specs.declared.numbers.Num.{Num}
use Rattle.es_values.specs.declared.numbers.Num.TheVariants.{Whole}
use Rattle.es_values.specs.declared.values.Value.{Value}
use Rattle.es_values.specs.declared.values.Value.TheVariants.{Bool as Boolean, Number, Str}
use Rattle.es_values.specs.Charges.{addition_charge, conversion_charge, equality_charge, order_charge}
use Rattle.es_values.specs.Conversions.{number_of}
use Rattle.es_values.specs.Numbers.{bitwise_and_of, bitwise_not_of, bitwise_or_of, bitwise_xor_of, difference_of, left_shift_of, negation_of, product_of, quotient_of, remainder_of, signed_right_shift_of, sum_of, unsigned_right_shift_of}
use Rattle.es_values.specs.Objects.{ObjectState}
use Rattle.es_values.specs.Operators.{addition_of, is_equal, order_of}
use Rattle.es_values.specs.Values.{equality_in_kind, type_name}
use Rattle.es_shapes.specs.declared.operators.Operator.{Operator}
use Rattle.es_shapes.specs.declared.operators.Operator.TheVariants as the
use Rattle.es_shapes.specs.declared.operators.Sign.{Sign}
use Rattle.es_shapes.specs.declared.operators.Sign.TheVariants as sign

-- the value of an operator over a heap
abbrev pub of_numbers : List ObjectState → (Num → Num → Num) → Value → Value → Value
of_numbers heap f left right = Number (f (number_of heap left) (number_of heap right))

abbrev pub is_less : Option Ordering → Bool
is_less (Some Less) = true
is_less _ = false

abbrev pub is_greater : Option Ordering → Bool
is_greater (Some Greater) = true
is_greater _ = false

abbrev pub is_same : Option Ordering → Bool
is_same (Some Equal) = true
is_same _ = false

abbrev pub or_same : (Option Ordering → Bool) → Option Ordering → Bool
or_same test order = if test order then true else is_same order

-- `===`: values of one kind as `==` finds them, and values of unlike kinds never
abbrev pub is_strictly_equal : Value → Value → Bool
is_strictly_equal left right = unwrap_or (equality_in_kind left right) false

abbrev pub operated : List ObjectState → Operator → Value → Value → Value
operated heap the.Times left right = of_numbers heap product_of left right
operated heap the.Divide left right = of_numbers heap quotient_of left right
operated heap the.Remainder left right = of_numbers heap remainder_of left right
operated heap the.Plus left right = addition_of heap left right
operated heap the.Minus left right = of_numbers heap difference_of left right
operated heap the.ShiftLeft left right = of_numbers heap left_shift_of left right
operated heap the.ShiftRight left right = of_numbers heap signed_right_shift_of left right
operated heap the.UnsignedShiftRight left right =
    of_numbers heap unsigned_right_shift_of left right
operated heap the.Less left right = Boolean (is_less (order_of heap left right))
operated heap the.Greater left right = Boolean (is_greater (order_of heap left right))
operated heap the.LessOrEqual left right = Boolean (or_same is_less (order_of heap left right))
operated heap the.GreaterOrEqual left right =
    Boolean (or_same is_greater (order_of heap left right))
operated heap the.Equal left right = Boolean (is_equal heap left right)
operated heap the.NotEqual left right = Boolean (not (is_equal heap left right))
operated heap the.StrictEqual left right = Boolean (is_strictly_equal left right)
operated heap the.StrictNotEqual left right = Boolean (not (is_strictly_equal left right))
operated heap the.BitAnd left right = of_numbers heap bitwise_and_of left right
operated heap the.BitXor left right = of_numbers heap bitwise_xor_of left right
operated heap the.BitOr left right = of_numbers heap bitwise_or_of left right

-- both operands become numbers
abbrev pub numbers_charge : List ObjectState → Value → Value → ℕ
numbers_charge heap left right = conversion_charge heap left + conversion_charge heap right

-- `===`: within one kind what `==` is charged, and otherwise nothing
abbrev pub strict_equality_charge : List ObjectState → Value → Value → ℕ
strict_equality_charge heap left right =
    if is_some (equality_in_kind left right) then equality_charge heap left right else 0

abbrev pub operation_charge : List ObjectState → Operator → Value → Value → ℕ
operation_charge heap the.Plus left right = addition_charge heap left right
operation_charge heap the.Less left right = order_charge heap left right
operation_charge heap the.Greater left right = order_charge heap left right
operation_charge heap the.LessOrEqual left right = order_charge heap left right
operation_charge heap the.GreaterOrEqual left right = order_charge heap left right
operation_charge heap the.Equal left right = equality_charge heap left right
operation_charge heap the.NotEqual left right = equality_charge heap left right
operation_charge heap the.StrictEqual left right = strict_equality_charge heap left right
operation_charge heap the.StrictNotEqual left right = strict_equality_charge heap left right
operation_charge heap operator left right = numbers_charge heap left right

-- ---- operators of one value

abbrev pub signed_number : Sign → Num → Value
signed_number sign.Plus number = Number number
signed_number sign.Minus number = Number (negation_of number)
signed_number sign.Complement number = Number (bitwise_not_of number)
signed_number sign.Not number = Number number

abbrev pub type_text : Value → Value
type_text value = Str (type_name value)

-- one more or one less
abbrev pub stepped : Bool → Num → Num
stepped false number = sum_of number (Whole (pos 1))
stepped true number = sum_of number (Whole (negsuc 0))
