use Rattle.replay_run.proofs.KeptLaws.{kept_is_area, stores_none}
use Rattle.replay_run.proofs.kept_laws.law_of_kept_areas.Goals as goal

pub returns-clause-last : goal.returns-clause-last
returns-clause-last c = kept_is_area

pub returns-clause-none : goal.returns-clause-none
returns-clause-none c = stores_none
