use Rattle.std.proofs.Common.{◌≡◌, ◌<◌, ◌^◌, length, take}
use Rattle.es_shapes.specs.Codes.{declared_by}
use Rattle.es_shapes.proofs.functions.are_few_functions.Given as goal

abbrev pub invariant-loop-program : goal.invariant-loop-program
invariant-loop-program l = record {
  count : l.count ≡ length (declared_by (take l.program-index l.programs));
  few : l.count < 2 ^ 48;
}
