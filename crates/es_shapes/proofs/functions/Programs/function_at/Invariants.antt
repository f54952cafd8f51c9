use Rattle.std.proofs.Common.{◌≡◌, ◌-◌, length}
use Rattle.es_shapes.specs.devices.Parts.{IsFound}
use Rattle.es_shapes.proofs.functions.Programs.function_at.Given as goal

abbrev pub invariant-loop-list : goal.invariant-loop-list
invariant-loop-list l =
    IsFound l.list l.self-inside.read l.self-inside.found.items × (l.self-inside.list.now ≡ l.list)

abbrev pub decreases-loop-list : goal.decreases-loop-list
decreases-loop-list l = length l.list - l.self-inside.read
