use Rattle.event_items.proofs.DataEventLemmas.{all-items, few-items, own-items}
use Rattle.event_items.proofs.laws.law_of_data_event_items.Goals as goal

pub returns-clause-few : goal.returns-clause-few
returns-clause-few c = few-items

pub returns-clause-own : goal.returns-clause-own
returns-clause-own c = own-items

pub returns-clause-all : goal.returns-clause-all
returns-clause-all c = all-items
