use Rattle.bml_bytes.proofs.TestLaws.{same-texts}
use Rattle.bml_bytes.proofs.laws.law_of_same_texts.Goals as goal

pub returns : goal.returns
returns c = same-texts
