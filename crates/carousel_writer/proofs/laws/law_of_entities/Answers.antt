use Rattle.carousel_writer.proofs.GoodPartLaws.{media-again, read-again}
use Rattle.carousel_writer.proofs.laws.law_of_entities.Goals as goal

pub returns-clause-parts : goal.returns-clause-parts
returns-clause-parts c = read-again c.entity_laws_below.ensures

pub returns-clause-media : goal.returns-clause-media
returns-clause-media c = media-again c.entity_laws_below.ensures
