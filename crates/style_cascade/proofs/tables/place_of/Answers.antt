use Rattle.style_cascade.proofs.PlaceLemmas.{property_place-is}
use Rattle.style_cascade.proofs.tables.place_of.Goals as goal

pub returns : goal.returns
returns c = property_place-is c.args.property
