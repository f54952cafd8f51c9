use Rattle.std.proofs.Common.{◌≡◌}
use Rattle.es_values.specs.Arrays.{elements_below}
use Rattle.es_values.proofs.arrays.elements.Given as goal

abbrev pub invariant-loop-place : goal.invariant-loop-place
invariant-loop-place l = l.elements.items ≡ elements_below l.place l.properties
