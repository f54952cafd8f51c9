use Rattle.event_items.proofs.MatchLemmas.{kind-names}
use Rattle.event_items.proofs.laws.law_of_kinds.Goals as goal

pub returns : goal.returns
returns c = kind-names c.law_of_same_texts.ensures
