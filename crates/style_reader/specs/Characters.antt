-- The characters of a style's text. Texts are lists of codes; what is said of letters, digits and
-- case is said of ASCII alone (after the grammar of CSS level 1, 7.1). That form feeds are no
-- white, that `_` stands in names, and that escapes and codes past ASCII don't is this project's
-- own.
use Rattle.std.specs.Prelude.{ℕ, ◌-◌, ◌==◌, nat_eq, nat_le, Bool, false, ◌&&◌, ◌||◌, List, [], ◌∷◌, length, take, drop}
use Rattle.std.specs.List.{list_all, prefix_len, starts_with, suffix_len}
use Rattle.std.specs.Str.{byte}
use Rattle.bml_bytes.specs.Numerals.{is_decimal_digit}
use Rattle.bml_bytes.specs.Words.{is_same_in_any_case}

-- space, tab, line feed, carriage return
unfoldable pub is_white : ℕ → Bool
is_white code = (code == 0x20) || ((code == 0x09) || ((code == 0x0A) || (code == 0x0D)))

unfoldable pub is_letter : ℕ → Bool
is_letter code =
    (nat_le (byte "A") code && nat_le code (byte "Z"))
    || (nat_le (byte "a") code && nat_le code (byte "z"))

-- what a name begins with: a letter or `_`
unfoldable pub is_name_start : ℕ → Bool
is_name_start code = is_letter code || (code == byte "_")

-- what a name goes on with: also a digit or `-`
unfoldable pub is_name_code : ℕ → Bool
is_name_code code = is_name_start code || (is_decimal_digit code || (code == byte "-"))

-- a name in a selector
abbrev pub is_name : List ℕ → Bool
is_name [] = false
is_name (first ∷ more) = is_name_start first && list_all is_name_code more

-- without the white at both ends
abbrev pub without_white_front : List ℕ → List ℕ
without_white_front text = drop (prefix_len is_white text) text

abbrev pub without_white_end : List ℕ → List ℕ
without_white_end text = take (length text - suffix_len is_white text) text

abbrev pub trimmed : List ℕ → List ℕ
trimmed text = without_white_end (without_white_front text)

-- the text is the word, without ASCII case
abbrev pub is_word : List ℕ → List ℕ → Bool
is_word word text = is_same_in_any_case text word

-- the text begins with these codes
abbrev pub begins_with : List ℕ → List ℕ → Bool
begins_with front text = starts_with nat_eq text front
