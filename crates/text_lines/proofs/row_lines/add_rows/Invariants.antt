use Rattle.std.proofs.Common.{◌≡◌, ◌++◌, List, ℕ, length}
use Rattle.text_lines.specs.RowLines.{with_rows}
use Rattle.text_lines.proofs.row_lines.add_rows.Given as goal

-- what was appended so far, and what the rest comes to, is what all lines come to
abbrev pub invariant-lines : goal.invariant-lines
invariant-lines l =
    (front : List ℕ) × (l.out.items ≡ l.fn.out.items ++ front)
    × (front ++ with_rows l.spacing l.align l.rest ≡ with_rows l.spacing l.align l.lines)

abbrev pub decreases-lines : goal.decreases-lines
decreases-lines l = length l.rest
