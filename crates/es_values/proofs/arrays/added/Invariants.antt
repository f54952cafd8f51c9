use Rattle.std.proofs.Common.{◌≡◌}
use Rattle.es_values.proofs.TurnLemmas.{news}
use Rattle.es_values.proofs.arrays.added.Given as goal

abbrev pub invariant-loop-place : goal.invariant-loop-place
invariant-loop-place l = l.added.items ≡ news l.count l.properties l.place
