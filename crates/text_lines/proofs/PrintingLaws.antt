-- Lines that are appended one after another.
use Rattle.std.proofs.Common.{◌≡◌, ℕ, ◌+◌, ◌≤◌, ◌==◌, List, [], ◌∷◌, ◌++◌, length, refl, sym, ap, ◌∙◌, append_assoc, append-nil, arith}
use Rattle.std.specs.Prelude.{Some, None}
use Rattle.std.specs.List.{flat_map, join_with_byte, slice_split}
use Rattle.std.proofs.lemmas.List.Splits.{length-slice_split}
use Rattle.text_lines.specs.declared.read_back.ShownText.{ShownText}
use Rattle.text_lines.specs.declared.row_lines.Align.{Align}
use Rattle.text_lines.specs.declared.rows.Row.{Row}
use Rattle.text_lines.specs.ReadBack.{text_in}
use Rattle.text_lines.specs.RowLines.{line_with_rows, lines_of_text, numbered_lines, row_line, with_rows}
use Rattle.text_lines.specs.devices.Printed.{ended_before}

-- a line with others behind it
pub joined-ended : (line : List ℕ) (lines : List (List ℕ)) → join_with_byte 10 (line ∷ lines) ≡ line ++ ended_before lines
joined-ended line [] = sym (append-nil line)
joined-ended line (next ∷ lines) =
    ap (λ (more : List ℕ). line ++ (10 ∷ more)) (joined-ended next lines)

joined-append : (line : List ℕ) (lines others : List (List ℕ)) → 1 ≤ length others → join_with_byte 10 ((line ∷ lines) ++ others) ≡ join_with_byte 10 (line ∷ lines) ++ 10 ∷ join_with_byte 10 others
joined-append line lines [] some = absurd (omega arith)
joined-append line [] (other ∷ others) some = refl
joined-append line (next ∷ lines) (other ∷ others) some =
    ap (λ (more : List ℕ). line ++ (10 ∷ more)) (joined-append next lines (other ∷ others) some)
    ∙ sym (append_assoc line (10 ∷ join_with_byte 10 (next ∷ lines)) (10 ∷ join_with_byte 10 (other ∷ others)))

some_lines : (spacing : ℕ) (align : Align) (lines : List (List ℕ)) → 1 ≤ length lines → 1 ≤ length (flat_map (line_with_rows spacing align) lines)
unfolding line_with_rows
some_lines spacing align [] some = absurd (omega arith)
some_lines spacing align (line ∷ lines) some = omega arith

-- the first line, and those behind it
pub with_rows-first : (spacing : ℕ) (align : Align) (display line rest : List ℕ) → slice_split (λ byte. byte == 10) display ≡ line ∷ slice_split (λ byte. byte == 10) rest → with_rows spacing align display ≡ join_with_byte 10 (line_with_rows spacing align line) ++ 10 ∷ with_rows spacing align rest
unfolding with_rows line_with_rows
with_rows-first spacing align display line rest cut =
    ap (λ (lines : List (List ℕ)). join_with_byte 10 (flat_map (line_with_rows spacing align) lines)) cut
    ∙ joined-append line _ (flat_map (line_with_rows spacing align) (slice_split (λ byte. byte == 10) rest)) (some_lines spacing align _ (omega (arith, length-slice_split (λ (byte : ℕ). byte == 10) rest)))

-- the last line
pub with_rows-last : (spacing : ℕ) (align : Align) (display : List ℕ) → slice_split (λ byte. byte == 10) display ≡ display ∷ [] → with_rows spacing align display ≡ join_with_byte 10 (line_with_rows spacing align display)
unfolding with_rows line_with_rows
with_rows-last spacing align display cut = rw cut (ap (join_with_byte 10) (append-nil (line_with_rows spacing align display)))

-- one row more
pub numbered-more : (align : Align) (shown : ShownText) (number : ℕ) (rows : List Row) (row : Row) → numbered_lines align shown number (rows ++ row ∷ []) ≡ numbered_lines align shown number rows ++ row_line align shown (number + length rows) row ∷ []
numbered-more align shown number [] row = let same : number + length {A = Row} [] ≡ number = omega arith in rw same refl
numbered-more align shown number (first ∷ rows) row =
    let same : number + 1 + length rows ≡ number + length (first ∷ rows) = omega arith in
    ap (λ lines. row_line align shown number first ∷ lines) (rw same at (numbered-more align shown (number + 1) rows row))

-- a line that shows a text, and one that doesn't
pub with_text : (spacing : ℕ) (align : Align) (line : List ℕ) (shown : ShownText) → text_in line ≡ Some shown → join_with_byte 10 (line_with_rows spacing align line) ≡ line ++ ended_before (lines_of_text spacing align shown)
unfolding line_with_rows
with_text spacing align line shown is = rw is (joined-ended line (lines_of_text spacing align shown))

pub without_text : (spacing : ℕ) (align : Align) (line : List ℕ) → text_in line ≡ None → join_with_byte 10 (line_with_rows spacing align line) ≡ line
unfolding line_with_rows
without_text spacing align line is = rw is refl
