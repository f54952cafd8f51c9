-- The lines of a display list with the rows of its texts (this project's own).
use Rattle.std.specs.Prelude.{ℕ, ◌+◌, ◌-◌, ◌*◌, ◌/◌, ◌==◌, pos, ◌+ℤ◌, List, [], ◌∷◌, ◌++◌, codes}
use Rattle.std.specs.Option.{option_map_or}
use Rattle.std.specs.List.{flat_map, join_with_byte, slice_range, slice_split}
use Rattle.bml_bytes.specs.Codes.{bytes_of}
use Rattle.bml_bytes.specs.Escapes.{escaped}
use Rattle.bml_bytes.specs.declared.line_fields.Escapes.TheVariants.{Controls}
use Rattle.bml_bytes.specs.Numerals.{signed_decimal_digits}
use Rattle.text_lines.specs.declared.read_back.ShownText.{ShownText}
use Rattle.text_lines.specs.declared.row_lines.Align.{Align}
use Rattle.text_lines.specs.declared.row_lines.Align.TheVariants.{Left, Center, Right}
use Rattle.text_lines.specs.declared.rows.Row.{Row}
use Rattle.text_lines.specs.Measures.{measures}
use Rattle.text_lines.specs.ReadBack.{text_in}
use Rattle.text_lines.specs.devices.RowsAhead.{rows_of}

-- how far from the left of its box a row begins that uses so much of the width: nothing where it uses
-- more than the width, since the difference stops at 0
abbrev pub indent : Align → ℕ → ℕ → ℕ
indent Left width used = 0
indent Center width used = (width - used) / 2
indent Right width used = width - used

-- `row X Y BYTES`, for the row of this number in the text, counted from 0
unfoldable pub row_line : Align → ShownText → ℕ → Row → List ℕ
row_line align shown number row =
    codes "row " ++ signed_decimal_digits (shown.x +ℤ pos (indent align shown.width row.used))
    ++ codes " " ++ signed_decimal_digits (shown.y +ℤ pos (shown.size * number)) ++ codes " "
    ++ escaped Controls (bytes_of (slice_range shown.text row.start row.end))

-- the lines of rows, of which the first has this number
abbrev pub numbered_lines : Align → ShownText → ℕ → List Row → List (List ℕ)
numbered_lines align shown number [] = []
numbered_lines align shown number (row ∷ rows) =
    row_line align shown number row ∷ numbered_lines align shown (number + 1) rows

-- the lines of a text's rows
abbrev pub lines_of_text : ℕ → Align → ShownText → List (List ℕ)
lines_of_text spacing align shown =
    numbered_lines align shown 0 (rows_of (measures shown.width shown.size spacing) shown.text)

-- a line, and the lines of its text's rows behind it, where it shows a text
unfoldable pub line_with_rows : ℕ → Align → List ℕ → List (List ℕ)
line_with_rows spacing align line =
    line ∷ option_map_or (lines_of_text spacing align) (text_in line) []

-- the lines of a display list, each with the rows behind it; a line feed stands between two lines
unfoldable pub with_rows : ℕ → Align → List ℕ → List ℕ
with_rows spacing align display =
    join_with_byte 10
    (flat_map (line_with_rows spacing align) (slice_split (λ byte. byte == 10) display))
