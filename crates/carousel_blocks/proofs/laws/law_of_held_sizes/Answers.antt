use Rattle.carousel_blocks.proofs.SizeLaws.{held_size}
use Rattle.carousel_blocks.proofs.laws.law_of_held_sizes.Goals as goal

pub returns-clause-size : goal.returns-clause-size
returns-clause-size c = λ messages number bytes whole. (held_size messages number bytes whole).size

pub returns-clause-limit : goal.returns-clause-limit
returns-clause-limit c = λ messages number bytes whole. (held_size messages number bytes whole).limit
