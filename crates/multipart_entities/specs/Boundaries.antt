-- The media type of an entity of several parts, its boundary, and the delimiter lines that this
-- makes (MIME, RFC 2046, 5.1.1; in this project's own profile).
use Rattle.std.specs.Prelude.{ℕ, ◌+◌, ◌==◌, Bool, true, false, ◌||◌, if◌then◌else◌, List, [], ◌∷◌, ◌++◌, length, take, Option, Some, None, option_and_then, codes as ascii}
use Rattle.std.specs.Option.{option_map_or}
use Rattle.std.specs.List.{list_any, list_all, before_first, filter_map}
use Rattle.std.specs.Str.{str_eq_ignore_ascii_case}
use Rattle.multipart_entities.specs.Lines.{Placed, is_blank, behind, behind_first, lines_of, placed_from}

-- the media type begins with `multipart/mixed`, without ASCII case
unfoldable pub is_multipart : List ℕ → Bool
is_multipart media = str_eq_ignore_ascii_case (take 15 media) (ascii "multipart/mixed")

-- ---- the boundary

abbrev pub is_quote : ℕ → Bool
is_quote byte = byte == 34

-- `;` and white
abbrev pub ends_boundary : ℕ → Bool
ends_boundary byte = (byte == 59) || (is_blank byte || ((byte == 0x0A) || (byte == 0x0D)))

-- a boundary in quotes goes up to the next quote, and every other up to `;` or white
abbrev pub boundary_at : List ℕ → List ℕ
boundary_at [] = []
boundary_at (byte ∷ bytes) =
    if is_quote byte then (if list_any is_quote bytes then before_first is_quote bytes else [])
    else before_first ends_boundary (byte ∷ bytes)

-- an empty one is none
abbrev pub unless_empty : List ℕ → Option (List ℕ)
unless_empty [] = None
unless_empty (byte ∷ bytes) = Some (byte ∷ bytes)

-- the boundary stands behind the first `boundary=` of the media type
unfoldable pub boundary_in : List ℕ → Option (List ℕ)
boundary_in media =
    option_and_then (λ bytes. unless_empty (boundary_at bytes))
    (behind_first (ascii "boundary=") media)

-- ---- delimiter lines

-- these bytes, and blanks
abbrev pub is_followed_by_blanks : List ℕ → List ℕ → Bool
is_followed_by_blanks front line = option_map_or (list_all is_blank) (behind front line) false

-- `--boundary`, and the last one `--boundary--`
abbrev pub is_delimiter : List ℕ → List ℕ → Bool
is_delimiter boundary line = is_followed_by_blanks (ascii "--" ++ boundary) line

abbrev pub is_last_delimiter : List ℕ → List ℕ → Bool
is_last_delimiter boundary line = is_followed_by_blanks (ascii "--" ++ boundary ++ ascii "--") line

-- where a delimiter line begins, where the next line does, and whether it is the last one
pub record Delimiter : Type 0 where
  pub start : ℕ
  pub next : ℕ
  pub last : Bool

abbrev pub delimiter_at : Placed → Bool → Delimiter
delimiter_at placed last =
    record { start = placed.place; next = placed.place + length placed.line + 2; last = last }

-- the delimiter that a line is
unfoldable pub delimiter_of : List ℕ → Placed → Option Delimiter
delimiter_of boundary placed =
    if is_delimiter boundary placed.line then Some (delimiter_at placed false)
    else if is_last_delimiter boundary placed.line then Some (delimiter_at placed true)
    else None

-- all delimiters of some lines, in order
abbrev pub delimiters : List ℕ → List Placed → List Delimiter
delimiters boundary lines = filter_map (delimiter_of boundary) lines

-- those of some bytes, of which the first line begins at this place
abbrev pub placed_delimiters : List ℕ → ℕ → List ℕ → List Delimiter
placed_delimiters boundary place bytes = delimiters boundary (placed_from place (lines_of bytes))
