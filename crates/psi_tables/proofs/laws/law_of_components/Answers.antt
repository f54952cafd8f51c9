use Rattle.psi_tables.proofs.DistinctLemmas.{components_apart, components_few}
use Rattle.psi_tables.proofs.TakenLemmas.{taken_somewhere, taken_stands}
use Rattle.psi_tables.proofs.laws.law_of_components.Goals as goal

pub returns-clause-distinct : goal.returns-clause-distinct
returns-clause-distinct c = components_apart

pub returns-clause-few : goal.returns-clause-few
returns-clause-few c = components_few

pub returns-clause-somewhere : goal.returns-clause-somewhere
returns-clause-somewhere c = taken_somewhere

pub returns-clause-order : goal.returns-clause-order
returns-clause-order c = taken_stands
