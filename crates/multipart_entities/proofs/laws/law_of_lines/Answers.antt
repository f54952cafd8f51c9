use Rattle.multipart_entities.proofs.LineLaws.{lines-apart, lines-joined}
use Rattle.multipart_entities.proofs.laws.law_of_lines.Goals as goal

pub returns-clause-joined : goal.returns-clause-joined
returns-clause-joined c = lines-joined

pub returns-clause-apart : goal.returns-clause-apart
returns-clause-apart c = lines-apart
