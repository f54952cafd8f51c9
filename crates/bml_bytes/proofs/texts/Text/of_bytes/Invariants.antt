use Rattle.std.proofs.Common.{◌≡◌, ◌++◌, length}
use Rattle.bml_bytes.specs.Codes.{codes}
use Rattle.bml_bytes.proofs.texts.Text.of_bytes.Given as goal

-- the codes found and those of the rest are those of all bytes
abbrev pub invariant-loop-code : goal.invariant-loop-code
invariant-loop-code l = l.found.items ++ codes l.rest ≡ codes l.bytes

abbrev pub decreases-loop-code : goal.decreases-loop-code
decreases-loop-code l = length l.rest
