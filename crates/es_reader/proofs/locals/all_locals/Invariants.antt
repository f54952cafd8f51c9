use Rattle.std.proofs.Common.{◌≡◌, map, take}
use Rattle.es_reader.specs.Told.{told_function}
use Rattle.es_reader.specs.devices.Owners.{locals_of}
use Rattle.es_reader.proofs.locals.all_locals.Given as goal

abbrev pub invariant-loop-function : goal.invariant-loop-function
invariant-loop-function l =
    l.locals.items ≡ locals_of (map told_function (take l.function-index l.functions))
