-- Numbers of scripts: the operators of ECMA-262 second edition, 11.4 to 11.10, over NaN and the whole
-- numbers from -2147483648 to 2147483647, which are this project's own.
use Rattle.std.specs.Prelude.{ℕ, ◌-◌, ◌*◌, ◌/◌, ◌%◌, ◌^◌, ◌==◌, nat_le, Bool, true, false, ◌||◌, not, if◌then◌else◌, ℤ, pos, ◌+ℤ◌, ◌-ℤ◌, ◌*ℤ◌, neg_ℤ, unsigned_abs, int_lt, int_div, int_rem, bit_and, bit_or, bit_xor}
use Rattle.std.specs.Int.{w32, int_wrap, int_div_euclid, cast_unsigned}
use Rattle.es_values.specs.declared.numbers.Num.{Num}
use Rattle.es_values.specs.declared.numbers.Num.TheVariants.{NotANumber, Whole}

-- the number of 32 bits with a sign that is the same modulo 2 ^ 32
abbrev pub wrapped : ℤ → ℤ
wrapped z = int_wrap w32 z

-- Arithmetic: NaN with NaN on either side, and what is too great or too small wraps

-- what f gives of two whole numbers, and NaN beside NaN
abbrev pub of_wholes : (ℤ → ℤ → Num) → Num → Num → Num
of_wholes f NotANumber right = NotANumber
of_wholes f (Whole a) NotANumber = NotANumber
of_wholes f (Whole a) (Whole b) = f a b

abbrev pub sum_of : Num → Num → Num
sum_of left right = of_wholes (λ a b. Whole (wrapped (a +ℤ b))) left right

abbrev pub difference_of : Num → Num → Num
difference_of left right = of_wholes (λ a b. Whole (wrapped (a -ℤ b))) left right

abbrev pub product_of : Num → Num → Num
product_of left right = of_wholes (λ a b. Whole (wrapped (a *ℤ b))) left right

-- a quotient is cut towards zero, and what is divided by 0 gives NaN
abbrev pub quotient_of : Num → Num → Num
quotient_of left right =
    of_wholes (λ a b. if unsigned_abs b == 0 then NotANumber else Whole (wrapped (int_div a b))) left right

-- what is left of the dividend behind that, so that it has the dividend's sign
abbrev pub remainder_of : Num → Num → Num
remainder_of left right =
    of_wholes (λ a b. if unsigned_abs b == 0 then NotANumber else Whole (int_rem a b)) left right

abbrev pub negation_of : Num → Num
negation_of NotANumber = NotANumber
negation_of (Whole a) = Whole (wrapped (neg_ℤ a))

-- Bit operators: on 32 bits in two's complement, where NaN is 0

abbrev pub whole_or_zero : Num → ℤ
whole_or_zero NotANumber = pos 0
whole_or_zero (Whole a) = a

-- its bits, as a number without sign
abbrev pub bits_of : Num → ℕ
bits_of number = cast_unsigned w32 (whole_or_zero number)

-- the number that has these bits
abbrev pub of_bits : ℕ → Num
of_bits bits = Whole (wrapped (pos bits))

abbrev pub bitwise_and_of : Num → Num → Num
bitwise_and_of left right = of_bits (bit_and (bits_of left) (bits_of right))

abbrev pub bitwise_or_of : Num → Num → Num
bitwise_or_of left right = of_bits (bit_or (bits_of left) (bits_of right))

abbrev pub bitwise_xor_of : Num → Num → Num
bitwise_xor_of left right = of_bits (bit_xor (bits_of left) (bits_of right))

abbrev pub bitwise_not_of : Num → Num
bitwise_not_of number = of_bits (2 ^ 32 - 1 - bits_of number)

-- how far a shift goes
abbrev pub shift_count : Num → ℕ
shift_count count = bits_of count % 32

abbrev pub left_shift_of : Num → Num → Num
left_shift_of number count = of_bits (bits_of number * 2 ^ shift_count count)

-- the sign is shifted in: a division that is rounded down
abbrev pub signed_right_shift_of : Num → Num → Num
signed_right_shift_of number count =
    Whole (int_div_euclid (whole_or_zero number) (pos (2 ^ shift_count count)))

-- zeros are shifted in
abbrev pub unsigned_right_shift_of : Num → Num → Num
unsigned_right_shift_of number count = of_bits (bits_of number / 2 ^ shift_count count)

-- Comparison: NaN is not equal to itself, and neither below nor above anything

abbrev pub is_not_a_number : Num → Bool
is_not_a_number NotANumber = true
is_not_a_number (Whole a) = false

abbrev pub is_equal_number : Num → Num → Bool
is_equal_number NotANumber right = false
is_equal_number (Whole a) NotANumber = false
is_equal_number (Whole a) (Whole b) = not (int_lt a b || int_lt b a)

abbrev pub is_less_number : Num → Num → Bool
is_less_number NotANumber right = false
is_less_number (Whole a) NotANumber = false
is_less_number (Whole a) (Whole b) = int_lt a b

-- Counts

-- a count as a number: NaN where it passes the greatest number
abbrev pub number_of_count : ℕ → Num
number_of_count count = if nat_le count 2147483647 then Whole (pos count) else NotANumber
