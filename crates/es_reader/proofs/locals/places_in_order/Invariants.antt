use Rattle.std.proofs.Common.{◌≡◌}
use Rattle.es_reader.specs.devices.Owners.{places_to}
use Rattle.es_reader.proofs.locals.places_in_order.Given as goal

abbrev pub invariant-nodes : goal.invariant-nodes
invariant-nodes l = l.places.items ≡ places_to l.locals l.nodes l.owners l.number
