use Rattle.std.proofs.Common.{◌≡◌, length}
use Rattle.es_values.specs.devices.Runs.{is_zero, without_front}
use Rattle.es_builtins.proofs.numerals.without_zeros.Given as goal

abbrev pub invariant-zeros : goal.invariant-zeros
invariant-zeros l = without_front is_zero l.rest ≡ without_front is_zero l.text

abbrev pub decreases-zeros : goal.decreases-zeros
decreases-zeros l = length l.rest
