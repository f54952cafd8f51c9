-- The texts of a display list, read back from its printed lines (this project's own).
use Rattle.std.specs.Prelude.{ℕ, ◌+◌, ◌-◌, ◌*◌, ◌==◌, nat_le, Bool, ◌&&◌, ◌||◌, if◌then◌else◌, ℤ, pos, ◌-ℤ◌, List, [], ◌∷◌, codes}
use Rattle.std.specs.Prelude.{Option, None, option_map, option_and_then}
use Rattle.std.specs.List.{join_with_byte, slice_split}
use Rattle.std.specs.Str.{byte}
use Rattle.bml_bytes.specs.Codes.{codes as codes_of}
use Rattle.bml_bytes.specs.Escapes.{escaped}
use Rattle.bml_bytes.specs.declared.line_fields.Escapes.TheVariants.{Controls}
use Rattle.bml_bytes.specs.Numerals.{decimal_digits, decimal_field, signed_decimal_digits}
use Rattle.bml_bytes.specs.Words.{is_same}
use Rattle.text_lines.specs.declared.read_back.ShownText.{ShownText}

-- ---- bytes

-- `0` to `9` and `A` to `F`
abbrev pub is_upper_hex : ℕ → Bool
is_upper_hex digit =
    (nat_le (byte "0") digit && nat_le digit (byte "9"))
    || (nat_le (byte "A") digit && nat_le digit (byte "F"))

abbrev pub upper_hex_value : ℕ → ℕ
upper_hex_value digit =
    if nat_le (byte "A") digit then digit - byte "A" + 10 else digit - byte "0"

-- a percent sign and two such digits
abbrev pub is_escape : ℕ → ℕ → ℕ → Bool
is_escape sign first second =
    (sign == byte "%") && (is_upper_hex first && is_upper_hex second)

-- the bytes that were printed: `%HH` is the byte of this number, and every other byte is itself
unfoldable pub unescaped : List ℕ → List ℕ
unescaped [] = []
unescaped (a ∷ []) = a ∷ []
unescaped (a ∷ b ∷ []) = a ∷ b ∷ []
unescaped (a ∷ b ∷ c ∷ rest) =
    if is_escape a b c then (upper_hex_value b * 16 + upper_hex_value c) ∷ unescaped rest
    else a ∷ unescaped (b ∷ c ∷ rest)

-- ---- a line

-- the line of a text as a display list has it: `text X Y W H COLOR SIZE BYTES`, without its end
abbrev pub text_line : ℤ → ℤ → ℕ → ℤ → ℤ → ℕ → List ℕ → List ℕ
text_line x y width height color size bytes =
    join_with_byte 32
    (codes "text" ∷ signed_decimal_digits x ∷ signed_decimal_digits y ∷ decimal_digits width
    ∷ signed_decimal_digits height ∷ signed_decimal_digits color ∷ decimal_digits size
    ∷ escaped Controls bytes ∷ [])

-- a decimal number, which may have a minus sign in front
abbrev pub signed_field : List ℕ → Option ℤ
signed_field [] = None
signed_field (first ∷ digits) =
    if first == byte "-" then option_map (λ number. pos 0 -ℤ pos number) (decimal_field digits)
    else option_map pos (decimal_field (first ∷ digits))

-- the text of these numbers and printed bytes, where the four are numbers
abbrev pub text_with : Option ℤ → Option ℤ → Option ℕ → Option ℕ → List ℕ → Option ShownText
text_with x y width size bytes =
    option_and_then (λ x. option_and_then (λ y. option_and_then (λ width. option_map (λ size.
    record { x = x; y = y; width = width; size = size; text = codes_of (unescaped bytes) })
    size) width) y) x

-- the text of a line `text X Y W H COLOR SIZE BYTES`, whose fields are parted by one space. All behind
-- the seventh space is BYTES
abbrev pub text_of_fields : List (List ℕ) → Option ShownText
text_of_fields (word ∷ x ∷ y ∷ width ∷ height ∷ color ∷ size ∷ first ∷ more) =
    if is_same word (codes "text")
    then text_with (signed_field x) (signed_field y) (decimal_field width) (decimal_field size)
    (join_with_byte 32 (first ∷ more))
    else None
text_of_fields _ = None

-- the text that a line shows, None where it is no such line. `law_of_shown_texts` says that what was printed is
-- read back
abbrev pub text_in : List ℕ → Option ShownText
text_in line = text_of_fields (slice_split (λ byte. byte == 32) line)
