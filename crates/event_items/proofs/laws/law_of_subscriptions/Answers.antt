use Rattle.event_items.proofs.SubscriptionLemmas.{others_stay, read_back}
use Rattle.event_items.proofs.laws.law_of_subscriptions.Goals as goal

pub returns-clause-own : goal.returns-clause-own
returns-clause-own c = read_back

pub returns-clause-others : goal.returns-clause-others
returns-clause-others c = others_stay
