-- The bytes of a document (XML 1.0, 2.2 and 2.3, in ASCII alone).
use Rattle.std.specs.Prelude.{ℕ, ◌==◌, nat_le, Bool, true, false, ◌&&◌, ◌||◌, if◌then◌else◌, List, [], ◌∷◌, Option, Some, None}
use Rattle.std.specs.List.{list_all}

-- white space: space, tab, line feed, carriage return
unfoldable pub is_white : ℕ → Bool
is_white byte = (byte == 32) || ((byte == 9) || ((byte == 10) || (byte == 13)))

unfoldable pub is_letter : ℕ → Bool
is_letter byte = (nat_le 65 byte && nat_le byte 90) || (nat_le 97 byte && nat_le byte 122)

unfoldable pub is_digit : ℕ → Bool
is_digit byte = nat_le 48 byte && nat_le byte 57

-- a digit of a hexadecimal number
unfoldable pub is_hex_digit : ℕ → Bool
is_hex_digit byte =
    is_digit byte || ((nat_le 65 byte && nat_le byte 70) || (nat_le 97 byte && nat_le byte 102))

-- the first byte of a name: a letter or `_`
unfoldable pub is_name_start : ℕ → Bool
is_name_start byte = is_letter byte || (byte == 95)

-- a byte of a name: also a digit, `-`, `.` and `:`
unfoldable pub is_name_byte : ℕ → Bool
is_name_byte byte =
    is_name_start byte || (is_digit byte || ((byte == 45) || ((byte == 46) || (byte == 58))))

abbrev pub is_name : List ℕ → Bool
is_name [] = false
is_name (first ∷ more) = is_name_start first && list_all is_name_byte more

-- a byte of a text: each but `<`
unfoldable pub is_text_byte : ℕ → Bool
is_text_byte byte = if byte == 60 then false else true

-- a byte of a value in these quotes: each but the quote and `<`
unfoldable pub is_value_byte : ℕ → ℕ → Bool
is_value_byte quote byte = if byte == quote then false else is_text_byte byte

-- `"` or `'`
unfoldable pub is_quote : ℕ → Bool
is_quote byte = (byte == 34) || (byte == 39)

-- a byte of a document type: each but `<`, `>` and `[`
unfoldable pub is_doctype_byte : ℕ → Bool
is_doctype_byte byte = if (byte == 62) || (byte == 91) then false else is_text_byte byte

-- the bytes from the front on that pass the test, and those behind them
abbrev pub front : (ℕ → Bool) → List ℕ → List ℕ
front test [] = []
front test (byte ∷ bytes) = if test byte then byte ∷ front test bytes else []

abbrev pub behind : (ℕ → Bool) → List ℕ → List ℕ
behind test [] = []
behind test (byte ∷ bytes) = if test byte then behind test bytes else byte ∷ bytes

-- what stands behind the mark at the front, and none where it isn't there
abbrev pub behind_mark : List ℕ → List ℕ → Option (List ℕ)
behind_mark [] bytes = Some bytes
behind_mark (m ∷ mark) [] = None
behind_mark (m ∷ mark) (byte ∷ bytes) = if byte == m then behind_mark mark bytes else None
