use Rattle.std.proofs.Common.{◌≡◌, length}
use Rattle.es_lexer.specs.Munching.{grown}
use Rattle.es_lexer.proofs.punctuators.grown_mark.Given as goal

abbrev pub invariant-codes : goal.invariant-codes
invariant-codes l = grown l.mark l.rest ≡ grown l.fn.mark l.codes

abbrev pub decreases-codes : goal.decreases-codes
decreases-codes l = length l.rest
