use Rattle.std.proofs.Common.{◌≡◌, ◌+◌, ◌-◌, ◌≤◌, length}
use Rattle.multipart_entities.specs.BoundaryViews.{delimiters_from}
use Rattle.multipart_entities.proofs.boundaries.next_delimiter.Given as goal

-- no line so far is a delimiter
abbrev pub invariant-lines : goal.invariant-lines
invariant-lines l = (delimiters_from l.boundary l.bytes l.place ≡ delimiters_from l.boundary l.bytes l.start) × (l.place ≤ l.start)

abbrev pub decreases-lines : goal.decreases-lines
decreases-lines l = length l.bytes + 1 - l.start
