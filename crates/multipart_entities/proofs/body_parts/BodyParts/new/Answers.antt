use Rattle.std.proofs.Common.{refl}
use Rattle.multipart_entities.proofs.BodyPartLemmas.{stand-none}
use Rattle.multipart_entities.proofs.body_parts.BodyParts.new.Goals as goal

pub returns-clause-stands : goal.returns-clause-stands
returns-clause-stands c = λ bytes. stand-none bytes (record { count = 0; parts = c.new.result }) refl c.new.ensures
