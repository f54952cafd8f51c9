use Rattle.std.proofs.Common.{take}
use Rattle.es_expressions.specs.Sources.{AreLexemes}
use Rattle.es_expressions.proofs.sources.lexemes_of.Given as goal

abbrev pub invariant-loop-token : goal.invariant-loop-token
invariant-loop-token l = AreLexemes l.text (take l.token-index l.token-items) l.lexemes.items
