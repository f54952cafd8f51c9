use Rattle.std.proofs.Common.{◌≡◌, ◌++◌, take}
use Rattle.es_shapes.specs.devices.Parts.{places_in}
use Rattle.es_shapes.proofs.functions.find_functions.Given as goal

abbrev pub invariant-loop-function : goal.invariant-loop-function
invariant-loop-function l =
    l.found.items
    ≡ l.initial.found.items ++ places_in l.place 0 (take l.function l.program.functions)
