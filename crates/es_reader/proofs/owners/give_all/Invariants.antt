use Rattle.std.proofs.Common.{◌≡◌, length}
use Rattle.es_reader.specs.devices.Owners.{given_all}
use Rattle.es_reader.proofs.owners.give_all.Given as goal

abbrev pub invariant-numbers : goal.invariant-numbers
invariant-numbers l =
    given_all l.bound l.function l.rest l.owners.items
    ≡ given_all l.bound l.function l.numbers l.initial.owners.items

abbrev pub decreases-numbers : goal.decreases-numbers
decreases-numbers l = length l.rest
