use Rattle.std.proofs.Common.{◌≡◌, filter, map, take}
use Rattle.std.specs.Prelude.{not}
use Rattle.es_builtins.specs.Arrays.{is_undefined}
use Rattle.es_builtins.proofs.SortLemmas.{keyed_of}
use Rattle.es_builtins.proofs.sorting.with_texts.Given as goal

abbrev pub invariant-loop-value : goal.invariant-loop-value
invariant-loop-value l = l.keyed.items ≡ map (keyed_of l.heap) (filter (λ value. not (is_undefined value)) (take l.value-index l.values))
