use Rattle.event_items.proofs.MatchLemmas.{each-matches, others-match-none, own-component}
use Rattle.event_items.proofs.laws.law_of_message_items.Goals as goal

pub returns-clause-each : goal.returns-clause-each
returns-clause-each c = each-matches

pub returns-clause-others : goal.returns-clause-others
returns-clause-others c = others-match-none

pub returns-clause-component : goal.returns-clause-component
returns-clause-component c = own-component
