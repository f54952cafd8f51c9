use Rattle.std.specs.HashMap.{keys}
use Rattle.std.proofs.Common.{eqb-true}
use Rattle.std.proofs.lemmas.List.Filters.{dedup_is}
use Rattle.std.proofs.lemmas.List.Kept.{Contains-dedup_nat}
use Rattle.std.proofs.lemmas.List.Sorted.{Contains-permutation}
use Rattle.std.proofs.lemmas.List.Elements.{Contains-append_left, Contains-append_right}
use Rattle.std.proofs.lemmas.Map.Keys.{IsStrictlyIncreasing-dedup}
use Rattle.std.proofs.lemmas.Map.Views.{Contains-keys_from_lookup}
use Rattle.carousel_blocks.proofs.changes.numbers_of.Goals as goal

pub returns-clause-rises : goal.returns-clause-rises
returns-clause-rises c = let is = dedup_is _ _ _ c.dedup.ensures.filtered in rw is (IsStrictlyIncreasing-dedup _ c.sort_unstable.ensures.sorted)

pub returns-clause-old : goal.returns-clause-old
returns-clause-old c = λ n h.
    let is = dedup_is _ _ _ c.dedup.ensures.filtered in
    let there = Contains-keys_from_lookup eqb-true n c.args.old.now.entries h in
    rw is (Contains-dedup_nat _ n (Contains-permutation _ _ n c.sort_unstable.ensures.permutation
    (rw (c.in_ok-add_numbers-2.ensures, c.in_ok-add_numbers.ensures)
    (Contains-append_left _ (keys c.args.new.now) n (Contains-append_right c.new-numbers.result.items (keys c.args.old.now) n there)))))

pub returns-clause-new : goal.returns-clause-new
returns-clause-new c = λ n h.
    let is = dedup_is _ _ _ c.dedup.ensures.filtered in
    let there = Contains-keys_from_lookup eqb-true n c.args.new.now.entries h in
    rw is (Contains-dedup_nat _ n (Contains-permutation _ _ n c.sort_unstable.ensures.permutation
    (rw c.in_ok-add_numbers-2.ensures (Contains-append_right c.add_numbers.new.numbers.items (keys c.args.new.now) n there))))
