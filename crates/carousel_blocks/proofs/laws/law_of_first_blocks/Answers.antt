use Rattle.carousel_blocks.proofs.FirstLaws.{first_block, block_first}
use Rattle.carousel_blocks.proofs.laws.law_of_first_blocks.Goals as goal

pub returns : goal.returns
returns c = λ messages number block_number bytes. (first_block messages number block_number bytes, block_first messages number block_number bytes)
