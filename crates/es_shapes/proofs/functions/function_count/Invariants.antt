use Rattle.std.proofs.Common.{◌≡◌, length, take}
use Rattle.es_shapes.specs.Codes.{declared_by}
use Rattle.es_shapes.proofs.functions.function_count.Given as goal

abbrev pub invariant-loop-program : goal.invariant-loop-program
invariant-loop-program l = l.count ≡ length (declared_by (take l.program-index l.programs))
