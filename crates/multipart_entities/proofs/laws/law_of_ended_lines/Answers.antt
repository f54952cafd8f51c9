use Rattle.multipart_entities.proofs.EndedLines.{lines-both, lines-one_line}
use Rattle.multipart_entities.proofs.laws.law_of_ended_lines.Goals as goal

pub returns-clause-both : goal.returns-clause-both
returns-clause-both c = lines-both

pub returns-clause-one : goal.returns-clause-one
returns-clause-one c = lines-one_line
