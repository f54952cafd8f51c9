-- Lines of bytes. A line ends with CR LF and with nothing else (RFC 822, 3.1), so that a CR or an
-- LF alone stands in it.
use Rattle.std.specs.Prelude.{ℕ, ◌+◌, ◌-◌, ◌==◌, nat_eq, Bool, ◌&&◌, ◌||◌, if◌then◌else◌, List, [], ◌∷◌, ◌++◌, length, take, drop, Option, Some, None}
use Rattle.std.specs.List.{starts_with, onto_first, prefix_len, suffix_len}

-- the lines that CR LF part; behind the last CR LF stands the last line, which may be empty
unfoldable pub lines_of : List ℕ → List (List ℕ)
lines_of [] = [] ∷ []
lines_of (first ∷ []) = (first ∷ []) ∷ []
lines_of (first ∷ second ∷ rest) =
    if (first == 13) && (second == 10) then [] ∷ lines_of rest
    else onto_first first (lines_of (second ∷ rest))

-- a line with the CR LF that ends it, and what stands behind it
abbrev pub line_then : List ℕ → List ℕ → List ℕ
line_then line rest = line ++ (13 ∷ 10 ∷ rest)

-- a line, and the place at which it begins
pub record Placed : Type 0 where
  pub place : ℕ
  pub line : List ℕ

-- the lines with their places, where the first begins at this place; an end has two bytes
abbrev pub placed_from : ℕ → List (List ℕ) → List Placed
placed_from place [] = []
placed_from place (line ∷ lines) =
    record { place = place; line = line } ∷ placed_from (place + length line + 2) lines

-- space, tab
abbrev pub is_blank : ℕ → Bool
is_blank byte = (byte == 0x20) || (byte == 0x09)

-- without the blanks at both ends
abbrev pub without_blanks_before : List ℕ → List ℕ
without_blanks_before bytes = drop (prefix_len is_blank bytes) bytes

abbrev pub without_blanks_behind : List ℕ → List ℕ
without_blanks_behind bytes = take (length bytes - suffix_len is_blank bytes) bytes

abbrev pub without_blanks : List ℕ → List ℕ
without_blanks bytes = without_blanks_behind (without_blanks_before bytes)

-- the bytes begin with those
abbrev pub begins_with : List ℕ → List ℕ → Bool
begins_with front bytes = starts_with nat_eq bytes front

-- what stands behind them there
abbrev pub behind : List ℕ → List ℕ → Option (List ℕ)
behind front bytes = if begins_with front bytes then Some (drop (length front) bytes) else None

-- what stands behind the first place at which they stand
unfoldable pub behind_first : List ℕ → List ℕ → Option (List ℕ)
behind_first word [] = behind word []
behind_first word (byte ∷ bytes) =
    if begins_with word (byte ∷ bytes) then behind word (byte ∷ bytes) else behind_first word bytes
