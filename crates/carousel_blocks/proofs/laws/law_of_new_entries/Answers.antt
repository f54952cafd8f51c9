use Rattle.carousel_blocks.proofs.EntryLaws.{new_entry}
use Rattle.carousel_blocks.proofs.laws.law_of_new_entries.Goals as goal

pub returns : goal.returns
returns c = λ messages message number change bytes told status whole. new_entry messages message number change bytes told status whole
