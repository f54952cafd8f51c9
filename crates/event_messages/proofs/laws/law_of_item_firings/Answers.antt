use Rattle.event_messages.proofs.ItemFiringLaws.{agree, each-fired, last-once, not-again, others-same, repeated-not}
use Rattle.event_messages.proofs.laws.law_of_item_firings.Goals as goal

pub returns-clause-last : goal.returns-clause-last
returns-clause-last c = λ message messages. (not-again message messages, last-once message messages)

pub returns-clause-repeated : goal.returns-clause-repeated
returns-clause-repeated c = repeated-not

pub returns-clause-others : goal.returns-clause-others
returns-clause-others c = others-same

pub returns-clause-agrees : goal.returns-clause-agrees
returns-clause-agrees c = agree

pub returns-clause-each : goal.returns-clause-each
returns-clause-each c = each-fired
