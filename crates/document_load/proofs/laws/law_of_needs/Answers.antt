use Rattle.document_load.proofs.NeedLemmas.{needs_of-none, needs_of-one, needs_of-order, named_by-more, length-named_by}
use Rattle.document_load.proofs.laws.law_of_needs.Goals as goal

pub returns-clause-none : goal.returns-clause-none
returns-clause-none c = needs_of-none

pub returns-clause-one : goal.returns-clause-one
returns-clause-one c = needs_of-one

pub returns-clause-order : goal.returns-clause-order
returns-clause-order c = needs_of-order

pub returns-clause-nodes : goal.returns-clause-nodes
returns-clause-nodes c = named_by-more

pub returns-clause-count : goal.returns-clause-count
returns-clause-count c = length-named_by
