use Rattle.std.proofs.Common.{◌≡◌, is_some, length}
use Rattle.style_cascade.specs.Candidates.{last_value}
use Rattle.style_cascade.proofs.given.has_property.Given as goal

abbrev pub invariant-declarations : goal.invariant-declarations
invariant-declarations l = is_some (last_value l.property l.rest) ≡ is_some (last_value l.property l.fn.declarations)

abbrev pub decreases-declarations : goal.decreases-declarations
decreases-declarations l = length l.rest
