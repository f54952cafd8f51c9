use Rattle.std.proofs.Common.{◌≡◌}
use Rattle.es_values.specs.Heaps.{cut_at}
use Rattle.es_values.proofs.property_map.Properties.cut.Given as goal

abbrev pub invariant-loop : goal.invariant-loop
invariant-loop l = cut_at l.place l.self ≡ cut_at l.place l.initial.self
