use Rattle.std.proofs.Common.{◌≡◌, ◌≤◌, length}
use Rattle.style_reader.specs.Characters.{without_white_front}
use Rattle.style_reader.proofs.characters.behind_white_blocks.Given as goal

abbrev pub invariant-white : goal.invariant-white
invariant-white l = (without_white_front l.rest ≡ without_white_front l.text) × (length l.rest ≤ length l.text)

abbrev pub decreases-white : goal.decreases-white
decreases-white l = length l.rest
