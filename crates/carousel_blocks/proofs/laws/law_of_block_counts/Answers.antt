use Rattle.carousel_blocks.proofs.CountLaws.{fewest, enough}
use Rattle.carousel_blocks.proofs.laws.law_of_block_counts.Goals as goal

pub returns : goal.returns
returns c = λ block_size size count some. (fewest block_size size count, enough block_size size count some)
