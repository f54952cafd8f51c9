use Rattle.std.proofs.Common.{◌≡◌, ◌++◌, false, length}
use Rattle.style_reader.specs.Readings.{plain_from}
use Rattle.style_reader.proofs.comments.plain_text.Given as goal

abbrev pub invariant-codes : goal.invariant-codes
invariant-codes l = l.plain.items ++ plain_from false l.rest ≡ plain_from false l.text

abbrev pub decreases-codes : goal.decreases-codes
decreases-codes l = length l.rest
