use Rattle.std.proofs.Common.{rules}
use Rattle.std.proofs.lemmas.List.Sorted.{answers_always}
use Rattle.std.proofs.lemmas.List.Elements.{All-same}
use Rattle.es_values.specs.Heaps.{IsLive}
use Rattle.es_builtins.specs.Arrays.{sorted}
use Rattle.es_builtins.proofs.SortLemmas.{before-order, is_before, sorted-all, sorted-from_sort}
use Rattle.es_builtins.proofs.sorting.sorted.Goals as goal

pub returns-clause-sorted : goal.returns-clause-sorted
returns-clause-sorted c =
    let compares = answers_always _ _ _ (λ f a r next called. search rules) in
    sorted-from_sort c.args.heap.now c.args.values.now c.in_ok-keyed.keyed.items c.sort_by.new.self.items c.in_ok-sorted.sorted.items c.push_values.new.out.items c.push_undefined.new.out.items c.in_ok-keyed.ensures
    (c.in_ok-sort_by.ensures.sorted is_before before-order compares) (c.sort_by.ensures.stable is_before before-order compares) c.in_ok-sorted.ensures.items c.in_ok-push_values.ensures c.in_ok-push_undefined.ensures

pub returns-clause-live : goal.returns-clause-live
returns-clause-live c =
    let heap = c.args.heap.now in
    All-same (IsLive heap) c.push_undefined.new.out.items (sorted heap c.args.values.now) (returns-clause-sorted c) (sorted-all (IsLive heap) heap c.args.values.now c.requires)
