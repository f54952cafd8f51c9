use Rattle.std.proofs.Common.{◌≡◌, length}
use Rattle.multipart_entities.specs.Lines.{behind_first}
use Rattle.multipart_entities.proofs.bytes.behind_first.Given as goal

abbrev pub invariant-places : goal.invariant-places
invariant-places l = behind_first l.word l.rest ≡ behind_first l.word l.bytes

abbrev pub decreases-places : goal.decreases-places
decreases-places l = length l.rest
