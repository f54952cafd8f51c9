use Rattle.std.proofs.Common.{◌≡◌, []}
use Rattle.std.specs.Prelude.{replicate}
use Rattle.browser_objects.proofs.registers.empty_registers.Given as goal

abbrev pub invariant-registers : goal.invariant-registers
invariant-registers l = l.registers.items ≡ replicate l.counter []
