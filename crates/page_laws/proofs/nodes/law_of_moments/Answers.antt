use Rattle.page_laws.proofs.MomentListLemmas.{inputs-are, turn-is}
use Rattle.page_laws.proofs.nodes.law_of_moments.Goals as goal

pub returns : goal.returns
returns c = record { turns = turn-is; inputs = inputs-are }
