-- The codes of a script by class (ECMA-262 second edition, 7.1, 7.2, 7.5 and 7.7, in ASCII alone:
-- that no code above 127 is white or a letter is this project's own).
use Rattle.std.specs.Prelude.{ℕ, ◌-◌, ◌==◌, nat_le, Bool, false, ◌&&◌, ◌||◌, if◌then◌else◌, List, [], ◌∷◌}
use Rattle.std.specs.List.{list_all}

-- white space: space, tab, vertical tab, form feed
unfoldable pub is_white : ℕ → Bool
is_white code = (code == 32) || ((code == 9) || ((code == 11) || (code == 12)))

-- a line terminator: line feed, carriage return
unfoldable pub is_line_terminator : ℕ → Bool
is_line_terminator code = (code == 10) || (code == 13)

unfoldable pub is_letter : ℕ → Bool
is_letter code = (nat_le 65 code && nat_le code 90) || (nat_le 97 code && nat_le code 122)

unfoldable pub is_decimal_digit : ℕ → Bool
is_decimal_digit code = nat_le 48 code && nat_le code 57

unfoldable pub is_octal_digit : ℕ → Bool
is_octal_digit code = nat_le 48 code && nat_le code 55

unfoldable pub is_hex_digit : ℕ → Bool
is_hex_digit code =
    is_decimal_digit code
    || ((nat_le 65 code && nat_le code 70) || (nat_le 97 code && nat_le code 102))

-- the number that a digit of any base writes
unfoldable pub digit_value : ℕ → ℕ
digit_value code =
    if nat_le code 57 then code - 48 else (if nat_le code 70 then code - 55 else code - 87)

-- the first code of a name, an IdentifierLetter: a letter, `$` or `_`
unfoldable pub is_identifier_start : ℕ → Bool
is_identifier_start code = is_letter code || ((code == 36) || (code == 95))

-- what a name goes on with: also a digit
unfoldable pub is_identifier_part : ℕ → Bool
is_identifier_part code = is_identifier_start code || is_decimal_digit code

-- the codes are an IdentifierName: an identifier or a reserved word
abbrev pub is_identifier : List ℕ → Bool
is_identifier [] = false
is_identifier (first ∷ more) = is_identifier_start first && list_all is_identifier_part more

-- `"` or `'`
unfoldable pub is_quote : ℕ → Bool
is_quote code = (code == 34) || (code == 39)
