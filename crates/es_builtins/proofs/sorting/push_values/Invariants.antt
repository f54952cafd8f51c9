use Rattle.std.proofs.Common.{◌≡◌, ◌++◌, map}
use Rattle.es_builtins.specs.declared.sorting.Keyed.{Keyed}
use Rattle.es_builtins.proofs.sorting.push_values.Given as goal

abbrev pub invariant-loop-keyed : goal.invariant-loop-keyed
invariant-loop-keyed l = l.out.items ≡ l.initial.out.items ++ map (λ (keyed : Keyed). keyed.value) l.yielded
