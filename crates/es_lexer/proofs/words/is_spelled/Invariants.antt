use Rattle.std.proofs.Common.{◌≡◌, length}
use Rattle.std.specs.Prelude.{nat_eq}
use Rattle.std.specs.Cmp.Lexicographic.{pointwise}
use Rattle.es_lexer.proofs.words.is_spelled.Given as goal

abbrev pub invariant-word : goal.invariant-word
invariant-word l = pointwise nat_eq l.left l.rest ≡ pointwise nat_eq l.word l.codes

abbrev pub decreases-word : goal.decreases-word
decreases-word l = length l.left
