use Rattle.event_items.proofs.MatchLemmas.{module-matches}
use Rattle.event_items.proofs.laws.law_of_module_items.Goals as goal

pub returns : goal.returns
returns c = module-matches
