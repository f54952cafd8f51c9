use Rattle.module_locks.proofs.HistoryLaws.{same_look, same_seen, some_seen}
use Rattle.module_locks.proofs.laws.law_of_seen_numbers.Goals as goal

pub returns-clause-same : goal.returns-clause-same
returns-clause-same c = same_seen c.law_of_undelivered_modules.ensures.sections c.law_of_undelivered_modules.ensures.maps

pub returns-clause-paths : goal.returns-clause-paths
returns-clause-paths c = same_look c.law_of_undelivered_modules.ensures.sections c.law_of_undelivered_modules.ensures.maps

pub returns-clause-some : goal.returns-clause-some
returns-clause-some c = some_seen c.law_of_undelivered_modules.ensures.sections c.law_of_undelivered_modules.ensures.maps
