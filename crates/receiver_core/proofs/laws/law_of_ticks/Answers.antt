use Rattle.receiver_core.proofs.TickLaws.{in_two, no_time, quiet_until, turn_when_due}
use Rattle.receiver_core.proofs.laws.law_of_ticks.Goals as goal

pub returns-clause-none : goal.returns-clause-none
returns-clause-none c = no_time

pub returns-clause-split : goal.returns-clause-split
returns-clause-split c = in_two

pub returns-clause-quiet : goal.returns-clause-quiet
returns-clause-quiet c = quiet_until

pub returns-clause-due : goal.returns-clause-due
returns-clause-due c = turn_when_due
