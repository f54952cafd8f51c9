use Rattle.psi_tables.proofs.DistinctLemmas.{map_apart}
use Rattle.psi_tables.proofs.HistoryLemmas.{data_map}
use Rattle.psi_tables.proofs.PlaceLemmas.{service_last, service_none, map_last, map_none}
use Rattle.psi_tables.proofs.laws.law_of_component_map.Goals as goal

pub returns-clause-service : goal.returns-clause-service
returns-clause-service c = service_last

pub returns-clause-no_service : goal.returns-clause-no_service
returns-clause-no_service c = service_none

pub returns-clause-map : goal.returns-clause-map
returns-clause-map c = map_last

pub returns-clause-no_map : goal.returns-clause-no_map
returns-clause-no_map c = map_none

pub returns-clause-data_pid : goal.returns-clause-data_pid
returns-clause-data_pid c = data_map

pub returns-clause-apart : goal.returns-clause-apart
returns-clause-apart c = map_apart
