use Rattle.display_list.proofs.OrderLemmas.{filter-in_order, permutation-in_order, sorted-in_order}
use Rattle.display_list.proofs.laws.law_of_order.Goals as goal

pub returns-clause-permutation : goal.returns-clause-permutation
returns-clause-permutation c = permutation-in_order

pub returns-clause-sorted : goal.returns-clause-sorted
returns-clause-sorted c = sorted-in_order

pub returns-clause-stable : goal.returns-clause-stable
returns-clause-stable c = λ level nodes x. filter-in_order level x nodes
