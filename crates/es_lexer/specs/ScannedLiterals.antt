-- A device of the proofs: the characters of a text literal, one after the other.
use Rattle.std.specs.Prelude.{ℕ, zero, suc, ◌==◌, nat_le, ◌||◌, if◌then◌else◌, List, [], ◌∷◌, length, Option, Some, None, option_map}
use Rattle.es_lexer.specs.Codes.{is_line_terminator, is_octal_digit, is_hex_digit}
use Rattle.es_lexer.specs.Literals.{Character, control_of}
use Rattle.es_lexer.specs.Literals.Character.{Plain, Control, OctalEscape, ByteEscape, CodeEscape, Itself}
use Rattle.es_lexer.specs.Scanning.{Found, found, changed}

-- so many hexadecimal digits at the front
unfoldable pub hex_digits_at : ℕ → List ℕ → Option (Found (List ℕ))
hex_digits_at zero codes = Some (found [] codes)
hex_digits_at (suc count) [] = None
hex_digits_at (suc count) (code ∷ codes) = if is_hex_digit code then option_map (changed (λ digits. code ∷ digits)) (hex_digits_at count codes) else None

-- the escape that so many digits make, or the letter itself
unfoldable pub hex_escape_at : ℕ → ℕ → (List ℕ → Character) → List ℕ → Found Character
hex_escape_at count letter make codes = elim (hex_digits_at count codes) [ Some f ↦ changed make f | None ↦ found (Itself letter) codes ]

-- the octal digits of an escape behind its first one, and behind its second one
unfoldable pub third_digit_at : ℕ → ℕ → List ℕ → Found Character
third_digit_at first second [] = found (OctalEscape (first ∷ second ∷ [])) []
third_digit_at first second (third ∷ codes) =
    if is_octal_digit third then found (OctalEscape (first ∷ second ∷ third ∷ [])) codes
    else found (OctalEscape (first ∷ second ∷ [])) (third ∷ codes)

unfoldable pub second_digit_at : ℕ → List ℕ → Found Character
second_digit_at first [] = found (OctalEscape (first ∷ [])) []
second_digit_at first (second ∷ codes) =
    if is_octal_digit second
    then (if nat_le first 51 then third_digit_at first second codes else found (OctalEscape (first ∷ second ∷ [])) codes)
    else found (OctalEscape (first ∷ [])) (second ∷ codes)

-- the escape behind a `\`
unfoldable pub escape_at : List ℕ → Option (Found Character)
escape_at [] = None
escape_at (code ∷ codes) =
    if is_line_terminator code then None
    else (if is_octal_digit code then Some (second_digit_at code codes)
    else (if code == 120 then Some (hex_escape_at 2 120 ByteEscape codes)
    else (if code == 117 then Some (hex_escape_at 4 117 CodeEscape codes)
    else Some (found (elim (control_of code) [ Some meant ↦ Control code | None ↦ Itself code ]) codes))))

-- the character at the front, between quotes of this kind
unfoldable pub character_at : ℕ → List ℕ → Option (Found Character)
character_at quote [] = None
character_at quote (code ∷ codes) =
    if code == 92 then escape_at codes
    else (if (code == quote) || is_line_terminator code then None else Some (found (Plain code) codes))

-- the characters up to the quote, and what stands behind it; there are fewer than `most`
unfoldable pub inside_at : ℕ → ℕ → List ℕ → Option (Found (List Character))
inside_at zero quote codes = None
inside_at (suc most) quote [] = None
inside_at (suc most) quote (code ∷ codes) =
    if code == quote then Some (found [] codes)
    else elim (character_at quote (code ∷ codes)) [
      | Some f ↦ option_map (changed (λ characters. f.it ∷ characters)) (inside_at most quote f.rest)
      | None ↦ None
    ]

-- the same, of any number
unfoldable pub characters_at : ℕ → List ℕ → Option (Found (List Character))
characters_at quote codes = inside_at (suc (length codes)) quote codes
