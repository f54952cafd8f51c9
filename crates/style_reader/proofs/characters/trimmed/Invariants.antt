use Rattle.std.proofs.Common.{◌≡◌, length}
use Rattle.style_reader.specs.Characters.{trimmed, without_white_end}
use Rattle.style_reader.proofs.characters.trimmed.Given as goal

abbrev pub invariant-end : goal.invariant-end
invariant-end l = without_white_end l.rest ≡ trimmed l.text

abbrev pub decreases-end : goal.decreases-end
decreases-end l = length l.rest
