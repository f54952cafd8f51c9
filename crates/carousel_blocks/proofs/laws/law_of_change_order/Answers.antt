use Rattle.carousel_blocks.proofs.ToldLaws.{changes-increasing}
use Rattle.carousel_blocks.proofs.laws.law_of_change_order.Goals as goal

pub returns : goal.returns
returns c = λ before now. changes-increasing before now
