use Rattle.std.proofs.Common.{◌≡◌, ◌≤◌, length}
use Rattle.es_values.specs.devices.Runs.{is_zero, without_front}
use Rattle.es_values.proofs.numerals.behind_zero_blocks.Given as goal

abbrev pub invariant-zeros : goal.invariant-zeros
invariant-zeros l = record {
  text : without_front is_zero l.rest ≡ without_front is_zero l.text;
  bound : length l.rest ≤ length l.text;
}

abbrev pub decreases-zeros : goal.decreases-zeros
decreases-zeros l = length l.rest
