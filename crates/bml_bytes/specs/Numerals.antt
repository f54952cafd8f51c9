-- Numbers as they are printed in ASCII. (This project's own.)
use Rattle.std.specs.Prelude.{ℕ, zero, suc, ◌+◌, ◌-◌, ◌/◌, ◌%◌, nat_lt, nat_le, Bool, ◌&&◌, if◌then◌else◌, ℤ, pos, negsuc, List, [], ◌∷◌, ◌++◌, length, map, Option, Some, None}
use Rattle.std.specs.List.{list_all}
use Rattle.bml_bytes.specs.Numbers.{number_in, digits_in}

-- `0` to `9`, and then `a` to `f`
abbrev pub digit_character : ℕ → ℕ
digit_character digit = if nat_lt digit 10 then 48 + digit else 87 + digit

-- the digits of a number in base ten and no zero in front of them, where it has at most `more` digits
-- behind the first one
unfoldable pub decimal_within : ℕ → ℕ → List ℕ
decimal_within zero number = digit_character (number % 10) ∷ []
decimal_within (suc more) number =
    if nat_lt number 10 then digit_character number ∷ []
    else decimal_within more (number / 10) ++ digit_character (number % 10) ∷ []

-- a number in base ten with no zero in front; it has no more digits than its own value and one
abbrev pub decimal_digits : ℕ → List ℕ
decimal_digits number = decimal_within number number

-- the same of a signed number, with a minus sign before a negative one
abbrev pub signed_decimal_digits : ℤ → List ℕ
signed_decimal_digits (pos number) = decimal_digits number
signed_decimal_digits (negsuc number) = 45 ∷ decimal_digits (suc number)

-- a number in base sixteen, in lower case and with just `count` digits
abbrev pub hex_digits : ℕ → ℕ → List ℕ
hex_digits count number = map digit_character (digits_in 16 count number)

-- `0` to `9`
abbrev pub is_decimal_digit : ℕ → Bool
is_decimal_digit byte = nat_le 48 byte && nat_le byte 57

-- the number that decimal digits are
abbrev pub decimal_number : List ℕ → ℕ
decimal_number digits = number_in 10 (map (λ digit. digit - 48) digits)

-- what a field of digits means: 1 to 10 decimal digits, with zeros in front where one likes, whose
-- number fits 32 bits (this project's own rule)
unfoldable pub decimal_field : List ℕ → Option ℕ
decimal_field bytes =
    if list_all is_decimal_digit bytes && (nat_le 1 (length bytes) && (nat_le (length bytes) 10 && nat_le (decimal_number bytes) 4294967295))
    then Some (decimal_number bytes) else None
