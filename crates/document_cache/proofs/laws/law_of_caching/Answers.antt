use Rattle.document_cache.proofs.EntryLemmas.{found-kept, use-within, newest-found, kept-within, few-kept}
use Rattle.document_cache.proofs.laws.law_of_caching.Goals as goal

pub returns-clause-found : goal.returns-clause-found
returns-clause-found c = found-kept

pub returns-clause-used : goal.returns-clause-used
returns-clause-used c = use-within

pub returns-clause-newest : goal.returns-clause-newest
returns-clause-newest c = newest-found

pub returns-clause-others : goal.returns-clause-others
returns-clause-others c = kept-within

pub returns-clause-few : goal.returns-clause-few
returns-clause-few c = few-kept
