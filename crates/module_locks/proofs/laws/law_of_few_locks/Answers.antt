use Rattle.std.proofs.Common.{arith}
use Rattle.std.specs.Prelude.{not}
use Rattle.module_locks.specs.Locks.{is_lock_on}
use Rattle.module_locks.proofs.ListLaws.{fewer_left}
use Rattle.module_locks.proofs.KeptLaws.{few_behind}
use Rattle.module_locks.proofs.laws.law_of_few_locks.Goals as goal

pub returns-clause-locks : goal.returns-clause-locks
returns-clause-locks c = λ modules component number few. few_behind modules component number few

pub returns-clause-unlocks : goal.returns-clause-unlocks
returns-clause-unlocks c = λ modules component number few.
    let less = fewer_left (λ lock. not (is_lock_on component number lock)) modules.locks in
    omega arith
