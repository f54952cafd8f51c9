-- Numbers in other bases, and codes (ECMA-262 second edition, 15.1.2.2, 15.5.3.2 and 15.7.4.2, over
-- whole numbers; that bases outside of 2 to 36 give NaN or are ten is this project's own).
use Rattle.std.specs.Prelude.{ℕ, zero, suc, ◌/◌, ◌%◌, ◌==◌, nat_eq, nat_le, nat_lt, Bool, true, false, ◌&&◌, if◌then◌else◌, ℤ, pos, negsuc, List, [], ◌∷◌, ◌++◌, length, take, drop, codes}
use Rattle.std.specs.List.{prefix_len, starts_with}
use Rattle.bml_bytes.specs.Numerals.{digit_character}
use Rattle.es_values.specs.declared.numbers.Num.{Num}
use Rattle.es_values.specs.declared.numbers.Num.TheVariants.{NotANumber, Whole}
use Rattle.es_values.specs.Numbers.{bits_of}
use Rattle.es_values.specs.Numerals.{is_digit_in, number_in_range, number_written, signed, without_white_front}

-- ---- parseInt

-- the base that is asked for: none where it is NaN or outside of 2 to 36; where it is absent or 0 it is
-- told by the text
pub data Radix : Type 0 where
  Told : Radix
  Base : (base : ℕ) → Radix
  NoBase : Radix

abbrev pub base_in_range : ℕ → Radix
base_in_range base = if nat_le 2 base && nat_le base 36 then Base base else NoBase

abbrev pub radix_of_number : Num → Radix
radix_of_number NotANumber = NoBase
radix_of_number (Whole (pos zero)) = Told
radix_of_number (Whole (pos (suc n))) = base_in_range (suc n)
radix_of_number (Whole (negsuc n)) = NoBase

-- the number that the longest digits of a base at the front write, behind a sign; NaN without a digit
-- and past the range
abbrev pub digits_at_front : ℕ → List ℕ → List ℕ
digits_at_front base text = take (prefix_len (is_digit_in base) text) text

abbrev pub number_at_front : Bool → ℕ → List ℕ → Num
number_at_front negative base text =
    if nat_lt 0 (length (digits_at_front base text))
    then number_in_range (signed negative (number_written base (digits_at_front base text)))
    else NotANumber

-- `0x` in front tells base sixteen, and may stand there where that is asked for
abbrev pub begins_hex : List ℕ → Bool
begins_hex text = starts_with nat_eq text (codes "0x")

abbrev pub unsigned_front : Bool → Radix → List ℕ → Num
unsigned_front negative NoBase text = NotANumber
unsigned_front negative Told text =
    if begins_hex text then number_at_front negative 16 (drop 2 text)
    else number_at_front negative 10 text
unsigned_front negative (Base base) text =
    if nat_eq base 16 && begins_hex text then number_at_front negative 16 (drop 2 text)
    else number_at_front negative base text

abbrev pub signed_front : Radix → List ℕ → Num
signed_front radix [] = unsigned_front false radix []
signed_front radix (first ∷ rest) =
    if first == 45 then unsigned_front true radix rest
    else (if first == 43 then unsigned_front false radix rest
    else unsigned_front false radix (first ∷ rest))

unfoldable pub parsed : List ℕ → Radix → Num
parsed text radix = signed_front radix (without_white_front text)

-- ---- toString

-- the digits of a number, where it has at most `more` of them behind the first one
unfoldable pub digits_within : ℕ → ℕ → ℕ → List ℕ
digits_within base zero number = digit_character (number % base) ∷ []
digits_within base (suc more) number =
    if nat_lt number base then digit_character number ∷ []
    else digits_within base more (number / base) ++ digit_character (number % base) ∷ []

-- those of a whole number, which in base two has at most 32
abbrev pub signed_digits : ℕ → ℤ → List ℕ
signed_digits base (pos number) = digits_within base 31 number
signed_digits base (negsuc number) = 45 ∷ digits_within base 31 (suc number)

-- a base from 2 to 36, and else ten
abbrev pub base_or_ten : Num → ℕ
base_or_ten NotANumber = 10
base_or_ten (Whole (pos base)) = if nat_le 2 base && nat_le base 36 then base else 10
base_or_ten (Whole (negsuc n)) = 10

abbrev pub number_text_in : ℕ → Num → List ℕ
number_text_in base NotANumber = codes "NaN"
number_text_in base (Whole number) = signed_digits base number

-- ---- fromCharCode

-- the code of a number: that number modulo 65536, and 0 of NaN
abbrev pub code_of_number : Num → ℕ
code_of_number number = bits_of number % 65536
