use Rattle.std.proofs.Common.{◌≡◌, ◌≤◌, ◌<◌, ◌^◌, ◌++◌, drop}
use Rattle.text_lines.specs.Measures.{measures}
use Rattle.text_lines.specs.devices.RowsAhead.{rows_ahead}
use Rattle.text_lines.proofs.rows.row_places.Given as goal

-- the rows so far, and those that the open row and the codes behind it give, are those of the whole text
abbrev pub invariant-loop-code : goal.invariant-loop-code
invariant-loop-code l = record {
  place : l.row.end ≡ l.code-index;
  start : l.row.start ≤ l.row.end;
  small : l.row.used < 2 ^ 32;
  same : l.rows.items ++ rows_ahead (measures l.width l.size l.spacing) l.row (drop l.code-index l.code-items) ≡ rows_ahead (measures l.width l.size l.spacing) (record { start = 0; end = 0; used = 0 }) l.code-items;
}
