use Rattle.section_demultiplexer.proofs.StandingLaws.{same_lists}
use Rattle.section_demultiplexer.proofs.laws.law_of_same_lists.Goals as goal

pub returns : goal.returns
returns c = same_lists
