use Rattle.std.proofs.Common.{◌≤◌}
use Rattle.script_tests.proofs.told_scripts.fewest_steps.Given as goal

abbrev pub invariant-halves : goal.invariant-halves
invariant-halves l = record { order : l.too_few ≤ l.enough; most : l.enough ≤ 100000 }
