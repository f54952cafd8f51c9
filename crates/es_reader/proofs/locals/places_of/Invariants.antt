use Rattle.std.proofs.Common.{◌≤◌, length}
use Rattle.es_reader.specs.devices.Lookups.{FindsPlacesFrom}
use Rattle.es_reader.proofs.locals.places_of.Given as goal

abbrev pub invariant-names : goal.invariant-names
invariant-names l = record {
  within : l.place ≤ length l.names;
  found : FindsPlacesFrom l.places.entries l.place l.names;
}

abbrev pub decreases-names : goal.decreases-names
decreases-names l = l.place
