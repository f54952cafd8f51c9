use Rattle.std.proofs.Common.{◌∙◌}
use Rattle.module_locks.specs.Locks.{is_lock_on, kept_now, lock_answer, with_lock}
use Rattle.module_locks.proofs.ListLaws.{none_left}
use Rattle.module_locks.proofs.KeptLaws.{kept_behind, kept_locked, kept_unlocked}
use Rattle.module_locks.proofs.laws.law_of_kept_modules.Goals as goal

pub returns-clause-sections : goal.returns-clause-sections
returns-clause-sections c = λ modules component section its_component number kept no_event e.
    kept_behind modules component section its_component number kept no_event e

pub returns-clause-locks : goal.returns-clause-locks
unfolding with_lock
returns-clause-locks c = λ modules component other its_component number kept e.
    kept_locked (lock_answer component other modules) component other (kept_now modules.stored component other) modules.locks its_component number kept e

pub returns-clause-unlocks : goal.returns-clause-unlocks
returns-clause-unlocks c = λ modules component other its_component number kept e differ.
    kept_unlocked modules.locks component other its_component number differ ∙ e

pub returns-clause-gone : goal.returns-clause-gone
returns-clause-gone c = λ modules component number. none_left (is_lock_on component number) modules.locks
