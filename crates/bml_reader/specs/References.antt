-- References to characters in texts and values (XML 1.0, 4.1 and 4.6). Those to the five predefined
-- entities and those to the characters 1 to 127 are read; that every other `&` stands for itself is
-- this project's own rule.
use Rattle.std.specs.Prelude.{ℕ, zero, suc, ◌+◌, ◌-◌, ◌*◌, nat_le, nat_lt, ◌==◌, Bool, ◌&&◌, if◌then◌else◌, List, [], ◌∷◌, length, Option, Some, None, codes as ascii}
use Rattle.bml_reader.specs.Bytes.{is_digit, is_hex_digit, front, behind, behind_mark}

-- the character of a reference, and what stands behind it
pub record Reference : Type 0 where
  pub character : ℕ
  pub rest : List ℕ

unfoldable pub hex_value : ℕ → ℕ
hex_value byte =
    if nat_le byte 57 then byte - 48 else (if nat_le byte 70 then byte - 55 else byte - 87)

-- the number of some digits in a base, the highest digit first, where this number stands in front
-- of them
abbrev pub number_behind : ℕ → ℕ → List ℕ → ℕ
number_behind base number [] = number
number_behind base number (digit ∷ digits) =
    number_behind base (number * base + hex_value digit) digits

-- the number is a character of ASCII but NUL, and `;` stands behind it
unfoldable pub closed_by : ℕ → List ℕ → Option Reference
closed_by number [] = None
closed_by number (byte ∷ rest) =
    if (byte == 59) && (nat_le 1 number && nat_lt number 128)
    then Some (record { character = number; rest = rest }) else None

-- any number of digits, at least one, and `;`
unfoldable pub number_at : (ℕ → Bool) → ℕ → List ℕ → Option Reference
number_at test base bytes =
    if nat_lt 0 (length (front test bytes))
    then closed_by (number_behind base 0 (front test bytes)) (behind test bytes) else None

-- behind `&#`: decimal digits, or `x` and hexadecimal ones
unfoldable pub numeric_at : List ℕ → Option Reference
numeric_at [] = None
numeric_at (byte ∷ rest) =
    if byte == 120 then number_at is_hex_digit 16 rest else number_at is_digit 10 (byte ∷ rest)

-- the name at the front stands for the character
abbrev pub named_or : List ℕ → ℕ → List ℕ → Option Reference → Option Reference
named_or name character bytes other =
    elim (behind_mark name bytes) [
      | Some rest ↦ Some (record {
        character = character;
        rest = rest;
      })
      | None ↦ other
    ]

-- what stands behind an `&`
unfoldable pub reference_at : List ℕ → Option Reference
reference_at bytes =
    named_or (ascii "lt;") 60 bytes
    (named_or (ascii "gt;") 62 bytes (named_or (ascii "amp;") 38 bytes
    (named_or (ascii "quot;") 34 bytes (named_or (ascii "apos;") 39 bytes
    (elim (behind_mark (ascii "#") bytes) [ Some rest ↦ numeric_at rest | None ↦ None ])))))

-- the bytes with their references read, but for the first ones, which are left out
unfoldable pub read_behind : ℕ → List ℕ → List ℕ
read_behind left_out [] = []
read_behind (suc left_out) (byte ∷ bytes) = read_behind left_out bytes
read_behind zero (byte ∷ bytes) =
    if byte == 38 then
    elim (reference_at bytes) [
      | Some found ↦ found.character ∷ read_behind
          (length bytes - length found.rest) bytes
      | None ↦ byte ∷ read_behind zero bytes
    ]
    else byte ∷ read_behind zero bytes

-- the bytes of a text or a value with their references read
abbrev pub read_references : List ℕ → List ℕ
read_references bytes = read_behind 0 bytes
