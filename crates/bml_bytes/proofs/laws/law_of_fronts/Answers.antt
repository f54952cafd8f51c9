use Rattle.bml_bytes.proofs.Fronts.{begins-with_front}
use Rattle.bml_bytes.proofs.laws.law_of_fronts.Goals as goal

pub returns : goal.returns
returns c = begins-with_front
