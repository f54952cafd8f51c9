use Rattle.receiver_core.proofs.PassingLaws.{both_passed, none_passed}
use Rattle.receiver_core.proofs.laws.law_of_passing_time.Goals as goal

pub returns-clause-none : goal.returns-clause-none
returns-clause-none c = none_passed

pub returns-clause-joined : goal.returns-clause-joined
returns-clause-joined c = both_passed
