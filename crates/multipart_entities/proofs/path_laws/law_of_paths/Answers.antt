use Rattle.multipart_entities.proofs.BackLemmas.{text_spelled}
use Rattle.multipart_entities.proofs.TextLemmas.{text_resolves}
use Rattle.multipart_entities.proofs.path_laws.law_of_paths.Goals as goal

pub returns-clause-resolves : goal.returns-clause-resolves
returns-clause-resolves c = text_resolves

pub returns-clause-spelled : goal.returns-clause-spelled
returns-clause-spelled c = text_spelled
