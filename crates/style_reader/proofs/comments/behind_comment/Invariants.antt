use Rattle.std.proofs.Common.{◌≡◌, ◌≤◌, true, length}
use Rattle.style_reader.specs.Readings.{plain_from}
use Rattle.style_reader.proofs.comments.behind_comment.Given as goal

abbrev pub invariant-comment : goal.invariant-comment
invariant-comment l = (plain_from true l.text ≡ plain_from true l.rest) × (length l.rest ≤ length l.text)

abbrev pub decreases-comment : goal.decreases-comment
decreases-comment l = length l.rest
