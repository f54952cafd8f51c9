-- The codes of a text. A text of this project is a list of codes: one for each character of EUC-JP that
-- takes two bytes, and one for each other byte (EUC-JP, as ARIB STD-B24 volume 2 has it).
use Rattle.std.specs.Prelude.{ℕ, ◌+◌, ◌*◌, ◌/◌, ◌%◌, ◌<◌, nat_le, nat_lt, ◌==◌, ◌≡◌, ◌⊎◌, Bool, true, ◌&&◌, ◌||◌, if◌then◌else◌, List, [], ◌∷◌, All}
use Rattle.std.specs.List.{flat_map}

-- a byte of a character of JIS X 0208 or JIS X 0213 in EUC-JP, which takes two of them
abbrev pub is_high : ℕ → Bool
is_high byte = nat_le 0xA1 byte && nat_le byte 0xFE

-- the two bytes are one character: two high bytes, or a high byte after 0x8E, which is EUC-JP's shift to
-- the half-width kana of JIS X 0201
abbrev pub is_pair : ℕ → ℕ → Bool
is_pair first second = (is_high first || (first == 0x8E)) && is_high second

-- the codes of some bytes: a pair is the code first * 256 + second, and every other byte is a code
-- (EUC-JP; that a byte which belongs to no pair stands for itself is this project's own rule)
unfoldable pub codes : List ℕ → List ℕ
codes [] = []
codes (a ∷ []) = a ∷ []
codes (a ∷ b ∷ rest) = if is_pair a b then (a * 256 + b) ∷ codes rest else a ∷ codes (b ∷ rest)

-- the bytes of one code: two of a code above 255, the higher first, and one of every other
abbrev pub code_bytes : ℕ → List ℕ
code_bytes code = if nat_lt 255 code then code / 256 ∷ code % 256 ∷ [] else code ∷ []

-- the bytes of some codes, one code after another
abbrev pub bytes_of : List ℕ → List ℕ
bytes_of codes = flat_map code_bytes codes

-- each element is a byte
abbrev pub AreBytes : List ℕ → Type 0
AreBytes bytes = All (λ byte. byte < 256) bytes

-- a code that a byte or a pair has
abbrev pub IsByteOrPair : ℕ → Type 0
IsByteOrPair code = (code < 256) ⊎ (is_pair (code / 256) (code % 256) ≡ true)
