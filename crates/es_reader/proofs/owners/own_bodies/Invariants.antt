use Rattle.std.proofs.Common.{◌≡◌, length, map}
use Rattle.es_reader.specs.Told.{told_function}
use Rattle.es_reader.specs.devices.Owners.{started}
use Rattle.es_reader.proofs.owners.own_bodies.Given as goal

abbrev pub invariant-functions : goal.invariant-functions
invariant-functions l =
    started l.count l.function (map told_function l.rest) l.owners.items
    ≡ started l.count 0 (map told_function l.functions) l.initial.owners.items

abbrev pub decreases-functions : goal.decreases-functions
decreases-functions l = length l.rest
