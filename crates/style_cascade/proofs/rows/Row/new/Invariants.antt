use Rattle.std.proofs.Common.{◌≡◌, ◌-◌, ◌≤◌, None, length}
use Rattle.std.specs.Prelude.{replicate}
use Rattle.style_cascade.proofs.rows.Row.new.Given as goal

abbrev pub invariant-cells : goal.invariant-cells
invariant-cells l = record {
  empty : l.cells.items ≡ replicate (length l.cells.items) None;
  within : length l.cells.items ≤ 51;
}

abbrev pub decreases-cells : goal.decreases-cells
decreases-cells l = 51 - length l.cells.items
