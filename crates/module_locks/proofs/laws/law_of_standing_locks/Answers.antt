use Rattle.std.proofs.Common.{List, ap}
use Rattle.std.specs.Option.{option_map_or}
use Rattle.module_store.specs.Copies.{KeptModule}
use Rattle.module_store.specs.Resources.{look}
use Rattle.module_locks.specs.Locks.{Lock, kept_now, kept_on, lock_answer, look_kept, with_lock, with_section}
use Rattle.module_locks.proofs.KeptLaws.{all_unlocked, lock_behind_stands, lock_stands, none_left_behind}
use Rattle.module_locks.proofs.laws.law_of_standing_locks.Goals as goal

pub returns-clause-events : goal.returns-clause-events
returns-clause-events c = λ modules component section is. none_left_behind modules component section is

pub returns-clause-unlocked : goal.returns-clause-unlocked
returns-clause-unlocked c = λ modules component section is. all_unlocked modules component section is

pub returns-clause-looks : goal.returns-clause-looks
returns-clause-looks c = λ modules component section path is.
    ap (λ (locks : List Lock). option_map_or (λ (kept : KeptModule). look_kept kept path.name) (kept_on locks path.component path.«module»)
    (look (with_section component section modules).stored path))
    (none_left_behind modules component section is)

pub returns-clause-sections : goal.returns-clause-sections
returns-clause-sections c = λ modules component section its_component number no_event.
    lock_behind_stands modules component section its_component number no_event

pub returns-clause-locks : goal.returns-clause-locks
unfolding with_lock
returns-clause-locks c = λ modules component other its_component number stands.
    lock_stands (lock_answer component other modules) component other (kept_now modules.stored component other) modules.locks its_component number stands
