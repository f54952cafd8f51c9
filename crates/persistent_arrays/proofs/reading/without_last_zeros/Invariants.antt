use Rattle.std.proofs.Common.{◌≡◌, length}
use Rattle.persistent_arrays.specs.Fields.{without_last_zeros}
use Rattle.persistent_arrays.proofs.reading.without_last_zeros.Given as goal

abbrev pub invariant-zeros : goal.invariant-zeros
invariant-zeros l = without_last_zeros l.left ≡ without_last_zeros l.bytes

abbrev pub decreases-zeros : goal.decreases-zeros
decreases-zeros l = length l.left
