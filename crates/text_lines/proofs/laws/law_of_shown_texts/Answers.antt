use Rattle.text_lines.proofs.LineLaws.{line_back}
use Rattle.text_lines.proofs.ReadBackLaws.{read_back}
use Rattle.text_lines.proofs.laws.law_of_shown_texts.Goals as goal

pub returns-clause-bytes : goal.returns-clause-bytes
returns-clause-bytes c = read_back

pub returns-clause-line : goal.returns-clause-line
returns-clause-line c = line_back c.law_of_decimals.ensures.digits c.law_of_decimals.ensures.field
