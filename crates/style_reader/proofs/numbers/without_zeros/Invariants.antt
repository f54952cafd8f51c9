use Rattle.std.proofs.Common.{◌≡◌, length}
use Rattle.style_reader.specs.devices.Runs.{is_zero, without_front}
use Rattle.style_reader.proofs.numbers.without_zeros.Given as goal

abbrev pub invariant-zeros : goal.invariant-zeros
invariant-zeros l = without_front is_zero l.rest ≡ without_front is_zero l.digits

abbrev pub decreases-zeros : goal.decreases-zeros
decreases-zeros l = length l.rest
