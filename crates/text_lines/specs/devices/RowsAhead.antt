-- The rows that come from an open row on, over the codes behind it: a device of the proofs. The theorem passes
-- through `rows_of`: `law_of_rows` says that it gives the rows of a text, and that there is only one such list.
use Rattle.std.specs.Prelude.{ℕ, ◌+◌, ◌==◌, nat_le, if◌then◌else◌, List, [], ◌∷◌}
use Rattle.text_lines.specs.declared.rows.Row.{Row}
use Rattle.text_lines.specs.Measures.{Measures, code_width}

unfoldable pub ahead : Measures → ℕ → ℕ → ℕ → List ℕ → List Row
ahead m start end taken [] = record { start = start; end = end; used = taken } ∷ []
ahead m start end taken (code ∷ codes) =
    if code == 10
    then record { start = start; end = end; used = taken } ∷ ahead m (end + 1) (end + 1) 0 codes
    else (if start == end then ahead m end (end + 1) (code_width m.size code) codes
    else (if nat_le (taken + m.spacing + code_width m.size code) m.width
    then ahead m start (end + 1) (taken + m.spacing + code_width m.size code) codes
    else record { start = start; end = end; used = taken }
    ∷ ahead m end (end + 1) (code_width m.size code) codes))

abbrev pub rows_ahead : Measures → Row → List ℕ → List Row
rows_ahead m row codes = ahead m row.start row.end row.used codes

-- the rows of a text
abbrev pub rows_of : Measures → List ℕ → List Row
rows_of m text = ahead m 0 0 0 text
