use Rattle.nv_journal.proofs.RunLaws.{between-stores, within-store}
use Rattle.nv_journal.proofs.stop_laws.law_of_stops.Goals as goal

pub returns-clause-between : goal.returns-clause-between
returns-clause-between c = between-stores

pub returns-clause-within : goal.returns-clause-within
returns-clause-within c = within-store
