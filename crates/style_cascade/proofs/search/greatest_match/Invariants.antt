use Rattle.std.proofs.Common.{◌≡◌, None, length}
use Rattle.style_cascade.specs.devices.Searching.{greatest_of}
use Rattle.style_cascade.proofs.search.greatest_match.Given as goal

abbrev pub invariant-selectors : goal.invariant-selectors
invariant-selectors l = greatest_of l.subject l.state l.greatest l.rest ≡ greatest_of l.subject l.state None l.fn.selectors

abbrev pub decreases-selectors : goal.decreases-selectors
decreases-selectors l = length l.rest
