use Rattle.style_cascade.proofs.StrengthLaws.{order-one, strongest-among, strongest-each, strongest-none}
use Rattle.style_cascade.proofs.laws.law_of_strongest.Goals as goal

pub returns-clause-among : goal.returns-clause-among
returns-clause-among c = strongest-among

pub returns-clause-greatest : goal.returns-clause-greatest
returns-clause-greatest c = strongest-each

pub returns-clause-none : goal.returns-clause-none
returns-clause-none c = strongest-none

pub returns-clause-order : goal.returns-clause-order
returns-clause-order c = order-one
