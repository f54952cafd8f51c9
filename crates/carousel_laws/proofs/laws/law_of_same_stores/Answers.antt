use Rattle.carousel_laws.proofs.StoreLemmas.{held_alike, looks_alike, start_alike}
use Rattle.carousel_laws.proofs.laws.law_of_same_stores.Goals as goal

pub returns-clause-held : goal.returns-clause-held
returns-clause-held c = held_alike c.law_of_messages.ensures c.law_of_block_order.ensures

pub returns-clause-looks : goal.returns-clause-looks
returns-clause-looks c = looks_alike c.law_of_messages.ensures c.law_of_block_order.ensures

pub returns-clause-start : goal.returns-clause-start
returns-clause-start c = start_alike c.law_of_messages.ensures c.law_of_block_order.ensures
