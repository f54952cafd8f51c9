use Rattle.event_messages.proofs.FiringLemmas.{last-firing, no-firing, fired-last, forgotten-last, fires-last, fires-first, fires-no-more, fires-anew}
use Rattle.event_messages.proofs.laws.law_of_firings.Goals as goal

pub returns-clause-last : goal.returns-clause-last
returns-clause-last c = last-firing

pub returns-clause-none : goal.returns-clause-none
returns-clause-none c = no-firing

pub returns-clause-fired : goal.returns-clause-fired
returns-clause-fired c = fired-last

pub returns-clause-forgotten : goal.returns-clause-forgotten
returns-clause-forgotten c = forgotten-last

pub returns-clause-fires : goal.returns-clause-fires
returns-clause-fires c = fires-last

pub returns-clause-first : goal.returns-clause-first
returns-clause-first c = fires-first

pub returns-clause-repeated : goal.returns-clause-repeated
returns-clause-repeated c = fires-no-more

pub returns-clause-anew : goal.returns-clause-anew
returns-clause-anew c = fires-anew
