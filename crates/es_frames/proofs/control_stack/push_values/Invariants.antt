use Rattle.std.proofs.Common.{◌≡◌, ◌++◌}
use Rattle.std.specs.Prelude.{replicate}
use Rattle.es_values.specs.declared.values.Value.TheVariants.{Undefined}
use Rattle.es_frames.proofs.control_stack.push_values.Given as goal

abbrev pub invariant-loop : goal.invariant-loop
invariant-loop l = l.values.items ≡ l.initial.values.items ++ replicate l.counter Undefined
