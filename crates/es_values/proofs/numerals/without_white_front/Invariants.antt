use Rattle.std.proofs.Common.{◌≡◌, ◌≤◌, length}
use Rattle.es_values.specs.Numerals.{without_white_front}
use Rattle.es_values.proofs.numerals.without_white_front.Given as goal

abbrev pub invariant-front : goal.invariant-front
invariant-front l = (without_white_front l.rest ≡ without_white_front l.text) × (length l.rest ≤ length l.text)

abbrev pub decreases-front : goal.decreases-front
decreases-front l = length l.rest
