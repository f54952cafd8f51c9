use Rattle.std.proofs.Common.{◌≡◌, length}
use Rattle.es_lexer.specs.Scanning.{stripped}
use Rattle.es_lexer.proofs.codes.stripped.Given as goal

abbrev pub invariant-mark : goal.invariant-mark
invariant-mark l = stripped l.left l.rest ≡ stripped l.mark l.codes

abbrev pub decreases-mark : goal.decreases-mark
decreases-mark l = length l.left
