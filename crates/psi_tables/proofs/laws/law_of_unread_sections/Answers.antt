use Rattle.psi_tables.proofs.HistoryLemmas.{service_unread, map_unread, stands_unread}
use Rattle.psi_tables.proofs.laws.law_of_unread_sections.Goals as goal

pub returns-clause-service : goal.returns-clause-service
returns-clause-service c = service_unread

pub returns-clause-map : goal.returns-clause-map
returns-clause-map c = map_unread

pub returns-clause-stands : goal.returns-clause-stands
returns-clause-stands c = λ state history handled unread stands. stands_unread state history handled.pid handled.section unread stands
