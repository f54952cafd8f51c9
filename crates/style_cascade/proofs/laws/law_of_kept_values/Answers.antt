use Rattle.style_cascade.proofs.GetLemmas.{kept-all, kept-value}
use Rattle.style_cascade.proofs.laws.law_of_kept_values.Goals as goal

pub returns-clause-value : goal.returns-clause-value
returns-clause-value c = kept-value

pub returns-clause-chain : goal.returns-clause-chain
returns-clause-chain c = kept-all
