use Rattle.std.proofs.Common.{◌≡◌, ◌++◌, filter, take}
use Rattle.es_builtins.specs.Arrays.{is_undefined}
use Rattle.es_builtins.proofs.sorting.push_undefined.Given as goal

abbrev pub invariant-loop-value : goal.invariant-loop-value
invariant-loop-value l = l.out.items ≡ l.initial.out.items ++ filter is_undefined (take l.value-index l.values)
