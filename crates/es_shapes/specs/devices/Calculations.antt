-- A device of the proofs: what an operator makes of two numbers, and of how two values compare.
use Rattle.std.specs.Prelude.{Bool, not, Option}
use Rattle.std.specs.declared.cmp.Ordering.{Ordering}
use Rattle.es_values.specs.declared.numbers.Num.{Num}
use Rattle.es_values.specs.Numbers.{bitwise_and_of, bitwise_or_of, bitwise_xor_of, difference_of, left_shift_of, product_of, quotient_of, remainder_of, signed_right_shift_of, unsigned_right_shift_of}
use Rattle.es_shapes.specs.declared.operators.Operator.{Operator}
use Rattle.es_shapes.specs.declared.operators.Operator.TheVariants as the
use Rattle.es_shapes.specs.Operators.{is_greater, is_less, or_same}

-- every operator that is none of numbers counts as `|`
abbrev pub calculated : Operator → Num → Num → Num
calculated the.Times left right = product_of left right
calculated the.Divide left right = quotient_of left right
calculated the.Remainder left right = remainder_of left right
calculated the.Minus left right = difference_of left right
calculated the.ShiftLeft left right = left_shift_of left right
calculated the.ShiftRight left right = signed_right_shift_of left right
calculated the.UnsignedShiftRight left right = unsigned_right_shift_of left right
calculated the.BitAnd left right = bitwise_and_of left right
calculated the.BitXor left right = bitwise_xor_of left right
calculated _ left right = bitwise_or_of left right

-- every other operator counts as `!=`
abbrev pub compared : Operator → Bool → Bool
compared the.Equal same = same
compared _ same = not same

-- every other operator counts as `>=`
abbrev pub ordered : Operator → Option Ordering → Bool
ordered the.Less order = is_less order
ordered the.Greater order = is_greater order
ordered the.LessOrEqual order = or_same is_less order
ordered _ order = or_same is_greater order
