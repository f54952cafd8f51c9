use Rattle.bml_reader.proofs.ReadingLemmas.{reading-law}
use Rattle.bml_reader.proofs.documents.law_of_readings.Goals as goal

pub returns : goal.returns
returns c = λ bytes reading. reading-law bytes reading
