use Rattle.std.proofs.Common.{length}
use Rattle.es_lexer.proofs.LoopLemmas.{Keeps}
use Rattle.es_lexer.proofs.lexer.tokens.Given as goal

abbrev pub invariant-elements : goal.invariant-elements
invariant-elements l = Keeps l.text l.tokens.items l.rest l.after_break l.unclosed

abbrev pub decreases-elements : goal.decreases-elements
decreases-elements l = length l.rest
