use Rattle.std.proofs.Common.{◌≡◌, length}
use Rattle.es_values.specs.devices.Runs.{is_zero, without_front}
use Rattle.es_builtins.proofs.numerals.behind_zero_blocks.Given as goal

abbrev pub invariant-copies : goal.invariant-copies
invariant-copies l = without_front is_zero l.rest ≡ without_front is_zero l.text

abbrev pub decreases-copies : goal.decreases-copies
decreases-copies l = length l.rest
