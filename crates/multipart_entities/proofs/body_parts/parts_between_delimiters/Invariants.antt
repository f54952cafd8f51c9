use Rattle.std.proofs.Common.{◌+◌, ◌-◌, ◌≤◌, List, length, All}
use Rattle.multipart_entities.specs.BoundaryViews.{delimiters_from, seen_delimiter}
use Rattle.multipart_entities.specs.Entities.{BodyPart}
use Rattle.multipart_entities.specs.PartViews.{IsWithin, StandFor}
use Rattle.multipart_entities.proofs.BodyPartLemmas.{Reads, body_parts_of}
use Rattle.multipart_entities.proofs.body_parts.parts_between_delimiters.Given as goal

-- all body parts are those that were read, and those from the delimiter on
abbrev pub invariant-body_parts : goal.invariant-body_parts
invariant-body_parts l =
    (done : List BodyPart) × Reads (body_parts_of (delimiters_from l.boundary l.bytes l.place)) done (seen_delimiter l.delimiter) (delimiters_from l.boundary l.bytes l.delimiter.next)
    × StandFor l.bytes l.body_parts done × All (IsWithin l.bytes) l.body_parts.parts × (2 ≤ l.delimiter.next) × (l.delimiter.next ≤ length l.bytes + 2)

abbrev pub decreases-body_parts : goal.decreases-body_parts
decreases-body_parts l = length l.bytes + 3 - l.delimiter.next
