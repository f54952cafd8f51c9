use Rattle.carousel_blocks.proofs.OrderLaws.{same_held}
use Rattle.carousel_blocks.proofs.laws.law_of_block_order.Goals as goal

pub returns : goal.returns
returns c = λ messages first second dii number f a b same consistent. same_held messages first second dii number f a b same consistent
