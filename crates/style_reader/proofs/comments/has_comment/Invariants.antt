use Rattle.std.proofs.Common.{◌≡◌, false, length}
use Rattle.style_reader.specs.Readings.{plain_from}
use Rattle.style_reader.proofs.comments.has_comment.Given as goal

abbrev pub invariant-codes : goal.invariant-codes
invariant-codes l = plain_from false l.rest ≡ l.rest → plain_from false l.text ≡ l.text

abbrev pub decreases-codes : goal.decreases-codes
decreases-codes l = length l.rest
