-- Text literals, which the standard calls string literals (ECMA-262 second edition, 7.7.4): what
-- stands between the quotes, and the text that it means. That an `x` or a `u` behind `\` stands for
-- itself where the hexadecimal digits are missing is this project's own.
use Rattle.std.specs.Prelude.{◌≡◌, ◌≢◌, ℕ, ◌≤◌, ◌==◌, true, false, if◌then◌else◌, List, [], ◌∷◌, ◌++◌, length, map, Option, Some, None, IsNone, IsSome, unwrap_or}
use Rattle.std.specs.List.{list_all, flat_map}
use Rattle.bml_bytes.specs.Numbers.{number_in}
use Rattle.es_lexer.specs.Codes.{is_line_terminator, is_octal_digit, is_hex_digit, digit_value, is_quote}

-- one code of the text that a literal means, as it is written: the code itself; `\b`, `\f`, `\n`,
-- `\r` or `\t`; `\` and octal digits; `\x` or `\u` and hexadecimal digits; `\` and the code itself
pub data Character : Type 0 where
  Plain : (code : ℕ) → Character
  Control : (letter : ℕ) → Character
  OctalEscape : (digits : List ℕ) → Character
  ByteEscape : (digits : List ℕ) → Character
  CodeEscape : (digits : List ℕ) → Character
  Itself : (code : ℕ) → Character

abbrev pub character_spelling : Character → List ℕ
character_spelling (Plain code) = code ∷ []
character_spelling (Control letter) = 92 ∷ letter ∷ []
character_spelling (OctalEscape digits) = 92 ∷ digits
character_spelling (ByteEscape digits) = 92 ∷ 120 ∷ digits
character_spelling (CodeEscape digits) = 92 ∷ 117 ∷ digits
character_spelling (Itself code) = 92 ∷ code ∷ []

-- the control character that a letter behind `\` means: backspace, form feed, line feed, carriage
-- return, tab
unfoldable pub control_of : ℕ → Option ℕ
control_of letter =
    if letter == 98 then Some 8 else (if letter == 102 then Some 12
    else (if letter == 110 then Some 10 else (if letter == 114 then Some 13
    else (if letter == 116 then Some 9 else None))))

-- the code that it means
abbrev pub code_meant : Character → ℕ
code_meant (Plain code) = code
code_meant (Control letter) = unwrap_or (control_of letter) letter
code_meant (OctalEscape digits) = number_in 8 (map digit_value digits)
code_meant (ByteEscape digits) = number_in 16 (map digit_value digits)
code_meant (CodeEscape digits) = number_in 16 (map digit_value digits)
code_meant (Itself code) = code

-- it may stand between these quotes; the most that an octal escape means is 377, which is 255
abbrev pub IsCharacter : ℕ → Character → Type 0
IsCharacter quote (Plain code) = (code ≢ quote) × (code ≢ 92) × (is_line_terminator code ≡ false)
IsCharacter quote (Control letter) = IsSome (control_of letter)
IsCharacter quote (OctalEscape digits) =
    (1 ≤ length digits) × (length digits ≤ 3) × (list_all is_octal_digit digits ≡ true)
    × (number_in 8 (map digit_value digits) ≤ 255)
IsCharacter quote (ByteEscape digits) = (length digits ≡ 2) × (list_all is_hex_digit digits ≡ true)
IsCharacter quote (CodeEscape digits) = (length digits ≡ 4) × (list_all is_hex_digit digits ≡ true)
IsCharacter quote (Itself code) =
    (is_line_terminator code ≡ false) × (is_octal_digit code ≡ false) × IsNone (control_of code)

-- of all characters that may stand at its place, where these codes stand behind it, it is the
-- longest
pub record IsLongestCharacter (quote : ℕ) (it : Character) (behind : List ℕ) : Type 0 where
  pub stands : IsCharacter quote it
  pub longest : (other : Character) (more : List ℕ)
      → character_spelling other ++ more ≡ character_spelling it ++ behind
      → IsCharacter quote other → length (character_spelling other) ≤ length (character_spelling it)

-- characters one behind the other
abbrev pub inside_spelling : List Character → List ℕ
inside_spelling characters = flat_map character_spelling characters

abbrev pub AreCharacters : ℕ → List Character → Type 0
AreCharacters quote [] = Unit {0}
AreCharacters quote (it ∷ characters) =
    IsLongestCharacter quote it (inside_spelling characters) × AreCharacters quote characters

-- the quote, the characters, and the same quote, all on one line
pub record IsLiteral (quote : ℕ) (characters : List Character) : Type 0 where
  pub quoted : is_quote quote ≡ true
  pub inside : AreCharacters quote characters
