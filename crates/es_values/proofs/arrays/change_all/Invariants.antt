use Rattle.std.proofs.Common.{◌≡◌}
use Rattle.es_values.specs.devices.Turning.{all_changed}
use Rattle.es_values.proofs.arrays.change_all.Given as goal

abbrev pub invariant-loop-change : goal.invariant-loop-change
invariant-loop-change l = l.properties ≡ all_changed l.initial.properties l.yielded
