use Rattle.std.specs.Prelude.{All}
use Rattle.es_values.specs.Heaps.{IsLive}
use Rattle.script_tests.proofs.object_words.letter_values.Given as goal

abbrev pub invariant-loop-letter : goal.invariant-loop-letter
invariant-loop-letter l = All (IsLive l.heap) l.values.items
