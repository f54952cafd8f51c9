use Rattle.std.proofs.Common.{◌≡◌, ◌≤◌, length}
use Rattle.es_values.specs.Numerals.{is_white}
use Rattle.es_values.specs.devices.Runs.{without_end}
use Rattle.es_values.proofs.numerals.before_white_blocks.Given as goal

abbrev pub invariant-white : goal.invariant-white
invariant-white l = record {
  text : without_end is_white l.rest ≡ without_end is_white l.text;
  bound : length l.rest ≤ length l.text;
}

abbrev pub decreases-white : goal.decreases-white
decreases-white l = length l.rest
