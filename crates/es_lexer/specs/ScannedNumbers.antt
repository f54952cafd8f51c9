-- A device of the proofs: the number at the front of some codes.
use Rattle.std.specs.Prelude.{ℕ, ◌==◌, nat_le, nat_lt, Bool, true, false, not, ◌&&◌, ◌||◌, if◌then◌else◌, ℤ, pos, ◌+◌, ◌*◌, List, [], ◌∷◌, length, Option, Some, None, codes as ascii}
use Rattle.es_lexer.specs.Codes.{is_identifier_part, digit_value}
use Rattle.es_lexer.specs.Numbers.{Base, is_digit_in, number_written, most_number}
use Rattle.es_lexer.specs.Numbers.Base.{Decimal, Octal, Hexadecimal}
use Rattle.es_lexer.specs.Scanning.{Found, found, front, behind, stripped}

-- a number by its base and its digits
pub record Digits : Type 0 where
  pub base : Base
  pub digits : List ℕ

abbrev pub value_of_digits : Digits → ℤ
value_of_digits d = pos (number_written d.base d.digits)

-- the number of some digits where this number stands in front of them
abbrev pub number_behind : ℕ → ℕ → List ℕ → ℕ
number_behind radix number [] = number
number_behind radix number (digit ∷ digits) = number_behind radix (number * radix + digit_value digit) digits

-- what may stand directly behind a number
unfoldable pub ends_number : List ℕ → Bool
ends_number [] = true
ends_number (code ∷ more) = not (is_identifier_part code || (code == 46))

abbrev pub wants_digits : Base → Bool
wants_digits Decimal = false
wants_digits Octal = false
wants_digits Hexadecimal = true

-- these digits are wanted and there, write a number that isn't too great, and end where a number
-- may end
unfoldable pub is_whole : Base → List ℕ → List ℕ → Bool
is_whole base digits rest =
    (if wants_digits base then nat_lt 0 (length digits) else true)
    && (nat_le (number_written base digits) most_number && ends_number rest)

-- the number whose digits these codes begin with
unfoldable pub digits_at : Base → List ℕ → Option (Found Digits)
digits_at base codes =
    if is_whole base (front (is_digit_in base) codes) (behind (is_digit_in base) codes)
    then Some (found (record { base = base; digits = front (is_digit_in base) codes }) (behind (is_digit_in base) codes))
    else None

-- the number at the front, where a decimal digit is there
unfoldable pub number_at : List ℕ → Option (Found Digits)
number_at codes =
    elim (stripped (ascii "0x") codes) [
      | Some rest ↦ digits_at Hexadecimal rest
      | None ↦ elim (stripped (ascii "0") codes) [
        | Some rest ↦ digits_at Octal rest
        | None ↦ digits_at Decimal codes
      ]
    ]
