use Rattle.std.specs.Prelude.{All}
use Rattle.es_values.specs.Heaps.{IsLive}
use Rattle.script_tests.proofs.value_words.push_values.Given as goal

abbrev pub invariant-loop-word : goal.invariant-loop-word
invariant-loop-word l = All (IsLive l.heap) l.values.items
