use Rattle.std.proofs.Common.{take}
use Rattle.std.specs.Prelude.{true}
use Rattle.std.specs.List.{sum_by}
use Rattle.es_values.specs.Charges.{Charges, conversion_charge}
use Rattle.es_shapes.proofs.operations.charge_all.Given as goal

abbrev pub invariant-loop-value : goal.invariant-loop-value
invariant-loop-value l =
    Charges (sum_by (conversion_charge l.heap) (take l.value-index l.values)) l.before true l.steps
