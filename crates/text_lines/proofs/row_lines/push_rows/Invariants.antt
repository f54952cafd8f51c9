use Rattle.std.proofs.Common.{◌≡◌, ◌++◌, take}
use Rattle.text_lines.specs.RowLines.{numbered_lines}
use Rattle.text_lines.specs.devices.Printed.{ended_before}
use Rattle.text_lines.proofs.row_lines.push_rows.Given as goal

-- the lines of the rows so far stand behind what was there
abbrev pub invariant-rows : goal.invariant-rows
invariant-rows l = l.out.items ≡ l.fn.out.items ++ ended_before (numbered_lines l.align l.shown 0 (take l.number l.row-items))
