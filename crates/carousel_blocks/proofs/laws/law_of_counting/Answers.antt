use Rattle.std.specs.Prelude.{None}
use Rattle.carousel_blocks.proofs.PlaceLaws.{counts_from, to_counting}
use Rattle.carousel_blocks.proofs.laws.law_of_counting.Goals as goal

pub returns : goal.returns
returns c = λ h m b. (
  λ i. let r = counts_from None h m b i in (r.0, record { stands = r.1.stands; asked = r.1.asked; stays = r.1.stays_on }),
  λ p. to_counting None h m b p.0 (record { stands = p.1.stands; asked = p.1.asked; stays_on = p.1.stays }),
)
