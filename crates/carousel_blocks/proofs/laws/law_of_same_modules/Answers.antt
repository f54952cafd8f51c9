use Rattle.carousel_blocks.proofs.EntryLaws.{same_module}
use Rattle.carousel_blocks.proofs.laws.law_of_same_modules.Goals as goal

pub returns : goal.returns
returns c = λ messages message number none. same_module messages message number none
