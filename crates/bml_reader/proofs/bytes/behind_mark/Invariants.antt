use Rattle.std.proofs.Common.{◌≡◌, length}
use Rattle.bml_reader.specs.Bytes.{behind_mark}
use Rattle.bml_reader.proofs.bytes.behind_mark.Given as goal

abbrev pub invariant-mark : goal.invariant-mark
invariant-mark l = behind_mark l.left l.rest ≡ behind_mark l.mark l.bytes

abbrev pub decreases-mark : goal.decreases-mark
decreases-mark l = length l.left
