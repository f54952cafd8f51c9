use Rattle.std.proofs.Common.{rules}
use Rattle.std.proofs.lemmas.List.Sorted.{answers_always}
use Rattle.display_list.specs.declared.scenes.DrawnBox.{DrawnBox}
use Rattle.display_list.proofs.OrderLemmas.{in_order-from_sort}
use Rattle.display_list.proofs.scenes.sort_by_level.Goals as goal

pub returns-clause-order : goal.returns-clause-order
returns-clause-order c =
    let keys = answers_always _ _ _ (λ f a r next called. search rules) in
    in_order-from_sort (λ (drawn : DrawnBox). drawn.level) _ _ (c.in_ok-sort_by_key.ensures.sorted (λ (drawn : DrawnBox). drawn.level) keys) (c.sort_by_key.ensures.stable (λ (drawn : DrawnBox). drawn.level) keys)
