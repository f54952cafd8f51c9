use Rattle.std.proofs.Common.{◌≡◌}
use Rattle.es_values.specs.devices.Turning.{changes_below}
use Rattle.es_values.proofs.arrays.changes.Given as goal

abbrev pub invariant-loop-place : goal.invariant-loop-place
invariant-loop-place l = l.changes.items ≡ changes_below l.count l.place l.properties
