use Rattle.es_builtins.proofs.SortLawLemmas.{sorted-ascends, sorted-only, sorted-permutation, sorted-stable}
use Rattle.es_builtins.proofs.laws.law_of_sorting.Goals as goal

pub returns : goal.returns
returns c = record {
  permutation = sorted-permutation;
  ascending = sorted-ascends;
  stable = sorted-stable;
  only = sorted-only;
}
