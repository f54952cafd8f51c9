use Rattle.std.proofs.Common.{◌-◌, ◌≤◌, List, length}
use Rattle.persistent_arrays.specs.declared.kinds.FieldKind.{FieldKind}
use Rattle.persistent_arrays.specs.Structures.{IsStructure}
use Rattle.binary_table.specs.devices.Layouts.{IsLayoutOf}
use Rattle.binary_table.proofs.ShownLemmas.{SoFar}
use Rattle.binary_table.proofs.layouts.Layout.rows.Given as goal

abbrev pub invariant-rows : goal.invariant-rows
invariant-rows l = record {
  few : length l.rows.items ≤ l.most;
  so_far : (kinds : List FieldKind) → IsStructure kinds → IsLayoutOf kinds l.self → SoFar l.most kinds l.bytes l.start l.rows.items;
}

abbrev pub decreases-rows : goal.decreases-rows
decreases-rows l = l.most - length l.rows.items
