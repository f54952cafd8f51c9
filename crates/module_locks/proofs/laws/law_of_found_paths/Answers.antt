use Rattle.module_locks.proofs.KeptLaws.{found_behind, look_locked}
use Rattle.module_locks.proofs.laws.law_of_found_paths.Goals as goal

pub returns-clause-sections : goal.returns-clause-sections
returns-clause-sections c = λ modules component section path bytes low found no_event quiet.
    found_behind modules component section path bytes
    (λ here still. c.law_of_found_resources.ensures.sections modules.stored component section path bytes low here still) found no_event quiet

pub returns-clause-locks : goal.returns-clause-locks
returns-clause-locks c = λ modules component number path. look_locked modules component number path
