use Rattle.std.proofs.Common.{◌≡◌, ◌≤◌, ◌+◌, ◌*◌, length, drop}
use Rattle.binary_table.specs.devices.Layouts.{all_columns, all_stretches, last_tail, columns_from, stretches_from, tail_from}
use Rattle.binary_table.proofs.layouts.Layout.of.Given as goal

abbrev pub invariant-kinds : goal.invariant-kinds
invariant-kinds l = record {
  columns : all_columns l.layout (drop l.kind-index l.kinds) ≡ columns_from 0 0 0 l.kinds;
  stretches : all_stretches l.layout (drop l.kind-index l.kinds) ≡ stretches_from 0 0 l.kinds;
  tail : last_tail l.layout (drop l.kind-index l.kinds) ≡ tail_from 0 0 l.kinds;
  small : l.layout.tail + l.layout.bits ≤ 64 * l.kind-index;
  few : length l.layout.stretches.items ≤ l.kind-index;
}
