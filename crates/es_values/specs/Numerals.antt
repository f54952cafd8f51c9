-- The number that a text means (ECMA-262 second edition, 9.3.1). That line breaks are no white, that there
-- are whole numbers alone and what their range is, are this project's own.
use Rattle.std.specs.Prelude.{ℕ, ◌-◌, ◌==◌, nat_eq, nat_le, nat_lt, Bool, true, false, ◌&&◌, ◌||◌, if◌then◌else◌, ℤ, pos, negsuc, neg_ℤ, List, [], ◌∷◌, length, map, take, drop, codes}
use Rattle.std.specs.List.{list_all, prefix_len, starts_with, suffix_len}
use Rattle.bml_bytes.specs.Numbers.{number_in}
use Rattle.es_values.specs.declared.numbers.Num.{Num}
use Rattle.es_values.specs.declared.numbers.Num.TheVariants.{NotANumber, Whole}

-- white: space, tab, vertical tab, form feed
unfoldable pub is_white : ℕ → Bool
is_white code = (code == 32) || ((code == 9) || ((code == 11) || (code == 12)))

-- without the white at both ends
abbrev pub without_white_front : List ℕ → List ℕ
without_white_front text = drop (prefix_len is_white text) text

abbrev pub without_white_end : List ℕ → List ℕ
without_white_end text = take (length text - suffix_len is_white text) text

abbrev pub trimmed : List ℕ → List ℕ
trimmed text = without_white_end (without_white_front text)

-- what a digit is worth: `0` to `9`, and then `a` to `z` in either case; 36, which no base has, for
-- every other code
unfoldable pub digit_value : ℕ → ℕ
digit_value code =
    if nat_le 48 code && nat_le code 57 then code - 48
    else (if nat_le 65 code && nat_le code 90 then code - 55
    else (if nat_le 97 code && nat_le code 122 then code - 87 else 36))

abbrev pub is_digit_in : ℕ → ℕ → Bool
is_digit_in base code = nat_lt (digit_value code) base

-- at least one code, and digits of this base alone
abbrev pub are_digits : ℕ → List ℕ → Bool
are_digits base digits = nat_lt 0 (length digits) && list_all (is_digit_in base) digits

-- the number that digits write
abbrev pub number_written : ℕ → List ℕ → ℕ
number_written base digits = number_in base (map digit_value digits)

abbrev pub signed : Bool → ℕ → ℤ
signed false number = pos number
signed true number = neg_ℤ (pos number)

-- a whole number, and NaN past the range
abbrev pub number_in_range : ℤ → Num
number_in_range (pos n) = if nat_le n 2147483647 then Whole (pos n) else NotANumber
number_in_range (negsuc n) = if nat_le n 2147483647 then Whole (negsuc n) else NotANumber

-- what digits of a base mean behind a sign, if one stands there, and NaN where they are none
unfoldable pub signed_numeral : Bool → ℕ → List ℕ → Num
signed_numeral negative base digits =
    if are_digits base digits then number_in_range (signed negative (number_written base digits))
    else NotANumber

-- the text is empty; decimal digits behind `+`, behind `-` or alone; or `0x` and hexadecimal digits
unfoldable pub numeral : List ℕ → Num
numeral [] = Whole (pos 0)
numeral (first ∷ rest) =
    if first == 43 then signed_numeral false 10 rest
    else (if first == 45 then signed_numeral true 10 rest
    else (if starts_with nat_eq (first ∷ rest) (codes "0x") then signed_numeral false 16 (drop 2 (first ∷ rest))
    else signed_numeral false 10 (first ∷ rest)))

-- white at both ends counts for nothing
abbrev pub number_of_text : List ℕ → Num
number_of_text text = numeral (trimmed text)
