use Rattle.std.proofs.Common.{◌≡◌, ◌++◌, length}
use Rattle.text_lines.specs.ReadBack.{unescaped}
use Rattle.text_lines.proofs.read_back.unescape.Given as goal

-- the bytes found and those of the rest are those of all
abbrev pub invariant-loop-byte : goal.invariant-loop-byte
invariant-loop-byte l = l.found.items ++ unescaped l.rest ≡ unescaped l.bytes

abbrev pub decreases-loop-byte : goal.decreases-loop-byte
decreases-loop-byte l = length l.rest
