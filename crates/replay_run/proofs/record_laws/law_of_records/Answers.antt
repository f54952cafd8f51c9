use Rattle.replay_run.proofs.RecordLaws.{whole_items, whole_bad, bad_items, bad_number}
use Rattle.replay_run.proofs.record_laws.law_of_records.Goals as goal

pub returns-clause-all : goal.returns-clause-all
returns-clause-all c = λ bytes good. whole_items bytes (record { each = good })

pub returns-clause-none_bad : goal.returns-clause-none_bad
returns-clause-none_bad c = λ bytes good. whole_bad bytes (record { each = good })

pub returns-clause-before_bad : goal.returns-clause-before_bad
returns-clause-before_bad c = λ bytes before rest e good. bad_items bytes before rest e
    (record { each = good })

pub returns-clause-number : goal.returns-clause-number
returns-clause-number c = λ bytes before rest e good. bad_number bytes before rest e
    (record { each = good })
