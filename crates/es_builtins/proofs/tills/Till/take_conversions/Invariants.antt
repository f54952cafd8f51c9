use Rattle.std.proofs.Common.{◌≡◌, ◌-◌, ◌≤◌, take, sum_by}
use Rattle.es_values.specs.Charges.{conversion_charge}
use Rattle.es_builtins.proofs.tills.Till.take_conversions.Given as goal

abbrev pub invariant-loop-value : goal.invariant-loop-value
invariant-loop-value l = record {
  enough : sum_by (conversion_charge l.heap) (take l.value-index l.values) ≤ l.initial.self;
  left : l.self ≡ l.initial.self - sum_by (conversion_charge l.heap) (take l.value-index l.values);
}
