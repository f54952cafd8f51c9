use Rattle.bml_reader.proofs.ReachLemmas.{one-tree}
use Rattle.bml_reader.proofs.documents.law_of_documents.Goals as goal

pub returns : goal.returns
returns c = one-tree
