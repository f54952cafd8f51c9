use Rattle.carousel_blocks.proofs.EntryLaws.{same_transaction}
use Rattle.carousel_blocks.proofs.laws.law_of_transactions.Goals as goal

pub returns : goal.returns
returns c = λ messages message same. same_transaction messages message same
