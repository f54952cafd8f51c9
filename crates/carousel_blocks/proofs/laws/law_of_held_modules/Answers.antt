use Rattle.carousel_blocks.proofs.HeldLaws.{held_in_places, places_held}
use Rattle.carousel_blocks.proofs.laws.law_of_held_modules.Goals as goal

pub returns : goal.returns
returns c = λ messages number bytes. (held_in_places messages number bytes, places_held messages number bytes)
