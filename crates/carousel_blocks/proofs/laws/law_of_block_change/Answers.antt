use Rattle.carousel_blocks.specs.Changes.{number_bound}
use Rattle.carousel_blocks.proofs.ToldLaws.{changes-block}
use Rattle.carousel_blocks.proofs.laws.law_of_block_change.Goals as goal

pub returns : goal.returns
unfolding number_bound
returns c = λ messages block fits. changes-block messages block fits
