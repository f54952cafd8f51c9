use Rattle.std.proofs.Common.{◌≡◌, ◌-◌, ◌^◌}
use Rattle.std.specs.Prelude.{min}
use Rattle.es_values.specs.Lengths.{texts_length}
use Rattle.es_values.proofs.properties.length_by_places.Given as goal

abbrev pub invariant-loop-place : goal.invariant-loop-place
invariant-loop-place l = l.total ≡ min (texts_length l.properties l.place) (2 ^ 64 - 1)
