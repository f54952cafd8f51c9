-- Numbers as they are written in a script (ECMA-262 second edition, 7.7.3: whole numbers alone). The
-- greatest one, and that the `x` of a hexadecimal number is small, are this project's own.
use Rattle.std.specs.Prelude.{◌≡◌, ◌≢◌, ℕ, ◌≤◌, Bool, true, List, [], ◌∷◌, map, codes}
use Rattle.std.specs.List.{list_all}
use Rattle.bml_bytes.specs.Numbers.{number_in}
use Rattle.es_lexer.specs.Codes.{is_decimal_digit, is_octal_digit, is_hex_digit, digit_value}

pub data Base : Type 0 where
  Decimal : Base
  Octal : Base
  Hexadecimal : Base

abbrev pub radix : Base → ℕ
radix Decimal = 10
radix Octal = 8
radix Hexadecimal = 16

abbrev pub is_digit_in : Base → ℕ → Bool
is_digit_in Decimal code = is_decimal_digit code
is_digit_in Octal code = is_octal_digit code
is_digit_in Hexadecimal code = is_hex_digit code

-- what stands in front of the digits
abbrev pub base_mark : Base → List ℕ
base_mark Decimal = []
base_mark Octal = codes "0"
base_mark Hexadecimal = codes "0x"

-- the digits may stand behind that: a decimal number doesn't begin with `0`; `0` alone, which the
-- standard has among the decimal ones, is counted with the octal ones here, the value being the same
abbrev pub MayFollowMark : Base → List ℕ → Type 0
MayFollowMark Decimal [] = ⊥
MayFollowMark Decimal (first ∷ digits) = first ≢ 48
MayFollowMark Octal digits = Unit {0}
MayFollowMark Hexadecimal digits = digits ≢ []

-- the number that the digits write
abbrev pub number_written : Base → List ℕ → ℕ
number_written base digits = number_in (radix base) (map digit_value digits)

abbrev pub most_number : ℕ
most_number = 2147483647

-- `0x` and these digits, `0` and these digits, or these digits alone
pub record IsNumber (base : Base) (digits : List ℕ) : Type 0 where
  pub made_of : list_all (is_digit_in base) digits ≡ true
  pub begins : MayFollowMark base digits
  pub fits : number_written base digits ≤ most_number
