use Rattle.event_items.proofs.NodeLemmas.{item-nodes, item-order, item-own}
use Rattle.event_items.proofs.laws.law_of_event_items.Goals as goal

pub returns-clause-nodes : goal.returns-clause-nodes
returns-clause-nodes c = item-nodes c.law_of_same_texts.ensures

pub returns-clause-ascending : goal.returns-clause-ascending
returns-clause-ascending c = item-order

pub returns-clause-own : goal.returns-clause-own
returns-clause-own c = item-own
