use Rattle.std.proofs.Common.{◌≡◌, ◌≤◌, length}
use Rattle.es_values.specs.Numerals.{without_white_front}
use Rattle.es_values.proofs.numerals.behind_white_blocks.Given as goal

abbrev pub invariant-white : goal.invariant-white
invariant-white l = record {
  text : without_white_front l.rest ≡ without_white_front l.text;
  bound : length l.rest ≤ length l.text;
}

abbrev pub decreases-white : goal.decreases-white
decreases-white l = length l.rest
