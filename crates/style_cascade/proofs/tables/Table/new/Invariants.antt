use Rattle.std.proofs.Common.{◌≡◌, ◌-◌, ◌≤◌, None, length}
use Rattle.std.specs.Prelude.{replicate}
use Rattle.style_cascade.proofs.tables.Table.new.Given as goal

abbrev pub invariant-cells : goal.invariant-cells
invariant-cells l = record {
  empty : l.cells.items ≡ replicate (length l.cells.items) None;
  within : length l.cells.items ≤ l.count;
}

abbrev pub decreases-cells : goal.decreases-cells
decreases-cells l = l.count - length l.cells.items
