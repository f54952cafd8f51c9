use Rattle.std.proofs.Common.{◌≡◌, length}
use Rattle.style_reader.specs.Characters.{without_white_end}
use Rattle.style_reader.proofs.characters.before_white_blocks.Given as goal

abbrev pub invariant-white : goal.invariant-white
invariant-white l = without_white_end l.rest ≡ without_white_end l.text

abbrev pub decreases-white : goal.decreases-white
decreases-white l = length l.rest
