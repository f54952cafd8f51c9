use Rattle.page_laws.proofs.RepeatLemmas.{repeated}
use Rattle.page_laws.proofs.laws.law_of_repeated_messages.Goals as goal

pub returns : goal.returns
returns c component message s h =
    repeated c.law_of_item_firings.ensures.repeated component message s h
