use Rattle.std.proofs.Common.{◌≡◌, length}
use Rattle.es_values.specs.Numerals.{trimmed, without_white_end}
use Rattle.es_values.proofs.numerals.trimmed.Given as goal

abbrev pub invariant-end : goal.invariant-end
invariant-end l = without_white_end l.rest ≡ trimmed l.text

abbrev pub decreases-end : goal.decreases-end
decreases-end l = length l.rest
