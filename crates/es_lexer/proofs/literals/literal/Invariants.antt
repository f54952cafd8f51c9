use Rattle.std.proofs.Common.{◌≡◌, length}
use Rattle.std.specs.Prelude.{map, option_map}
use Rattle.es_lexer.specs.Literals.{code_meant}
use Rattle.es_lexer.specs.Scanning.{changed}
use Rattle.es_lexer.specs.ScannedLiterals.{characters_at}
use Rattle.es_lexer.proofs.LiteralLemmas.{meant_behind}
use Rattle.es_lexer.proofs.literals.literal.Given as goal

abbrev pub invariant-characters : goal.invariant-characters
invariant-characters l = option_map (changed (map code_meant)) (characters_at l.quote l.codes) ≡ meant_behind l.meant.items (characters_at l.quote l.rest)

abbrev pub decreases-characters : goal.decreases-characters
decreases-characters l = length l.rest
