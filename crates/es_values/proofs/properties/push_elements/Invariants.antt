use Rattle.std.proofs.Common.{◌≡◌, ◌++◌}
use Rattle.es_values.specs.Conversions.{joined}
use Rattle.es_values.proofs.properties.push_elements.Given as goal

abbrev pub invariant-loop-place : goal.invariant-loop-place
invariant-loop-place l = l.out.items ≡ l.initial.out.items ++ joined l.properties l.separator l.place
