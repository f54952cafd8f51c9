use Rattle.multipart_entities.proofs.BackLemmas.{reference_spelled}
use Rattle.multipart_entities.proofs.TextLemmas.{reference_refers}
use Rattle.multipart_entities.proofs.path_laws.law_of_component_references.Goals as goal

pub returns-clause-refers : goal.returns-clause-refers
returns-clause-refers c = reference_refers

pub returns-clause-spelled : goal.returns-clause-spelled
returns-clause-spelled c = reference_spelled
