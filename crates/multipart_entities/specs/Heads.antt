-- The head of an entity or of a part: header lines, and the empty line behind which its bytes begin
-- (RFC 822, 3.1; MIME, RFC 2045; the entities of ARIB STD-B24, volume 2; in this project's own
-- profile, without folded lines).
use Rattle.std.specs.Prelude.{ℕ, ◌+◌, ◌==◌, Bool, true, not, ◌&&◌, List, [], ◌∷◌, length, find, Option, Some, None, option_map, codes as ascii}
use Rattle.std.specs.Option.{option_map_or}
use Rattle.std.specs.List.{list_any, list_all, before_first, after_first, after_last}
use Rattle.std.specs.Str.{str_eq_ignore_ascii_case}
use Rattle.bml_bytes.specs.Codes.{codes}
use Rattle.multipart_entities.specs.Lines.{begins_with, without_blanks}

-- the lines before the empty one, and how many bytes it has with the empty line
pub record Head : Type 0 where
  pub lines : List (List ℕ)
  pub size : ℕ

-- with a line before it
abbrev pub with_line : List ℕ → Head → Head
with_line line head = record { lines = line ∷ head.lines; size = length line + 2 + head.size }

-- The head of bytes of these lines. The empty line is the first one, and is ended: the last line
-- isn't.
abbrev pub head_in : List (List ℕ) → Option Head
head_in [] = None
head_in (line ∷ []) = None
head_in ([] ∷ next ∷ lines) = Some (record { lines = []; size = 2 })
head_in ((byte ∷ bytes) ∷ next ∷ lines) =
    option_map (with_line (byte ∷ bytes)) (head_in (next ∷ lines))

-- ---- header lines: `Name: value`

abbrev pub is_colon : ℕ → Bool
is_colon byte = byte == 58

-- a colon stands in it, behind at least one byte
abbrev pub is_header : List ℕ → Bool
is_header line = list_any is_colon line && not (begins_with (ascii ":") line)

-- the name goes up to the first colon, and compares without ASCII case
abbrev pub has_name : List ℕ → List ℕ → Bool
has_name name line = str_eq_ignore_ascii_case (before_first is_colon line) name

-- the value is what stands behind it, without the blanks at both ends
abbrev pub value_in : List ℕ → List ℕ
value_in line = without_blanks (after_first is_colon line)

-- the value of the first header of that name
unfoldable pub header : List ℕ → List (List ℕ) → Option (List ℕ)
header name lines = option_map value_in (find (has_name name) lines)

-- each line of the head is a header
abbrev pub is_good : Head → Bool
is_good head = list_all is_header head.lines

-- ---- what the headers say

-- the media type, where it is told
abbrev pub media_of : Head → Option (List ℕ)
media_of head = header (ascii "Content-Type") head.lines

-- the bytes stand as they are: no encoding is told, or `binary`, without ASCII case
abbrev pub is_binary : Head → Bool
is_binary head =
    option_map_or (str_eq_ignore_ascii_case (ascii "binary"))
    (header (ascii "Content-Transfer-Encoding") head.lines) true

abbrev pub is_slash : ℕ → Bool
is_slash byte = byte == 47

-- the name is what follows the last `/` of Content-Location, or else empty
abbrev pub name_of : Head → List ℕ
name_of head =
    codes (option_map_or (after_last is_slash) (header (ascii "Content-Location") head.lines) [])
