use Rattle.psi_tables.proofs.WantedLemmas.{wants-is, few_mapped, few_wanted, few_always}
use Rattle.psi_tables.proofs.laws.law_of_wanted_pids.Goals as goal

pub returns-clause-wanted : goal.returns-clause-wanted
returns-clause-wanted c = wants-is

pub returns-clause-components : goal.returns-clause-components
returns-clause-components c = few_mapped

pub returns-clause-few : goal.returns-clause-few
returns-clause-few c = few_wanted

pub returns-clause-always : goal.returns-clause-always
returns-clause-always c = few_always
