use Rattle.std.proofs.Common.{◌≡◌, ◌++◌, replicate}
use Rattle.persistent_arrays.proofs.packing.fill.Given as goal

abbrev pub invariant-zeros : goal.invariant-zeros
invariant-zeros l = l.bytes.items ≡ l.initial.bytes.items ++ replicate l.counter 0
