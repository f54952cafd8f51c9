use Rattle.text_lines.proofs.OnlyRows.{only_rows}
use Rattle.text_lines.proofs.RowLaws.{rows_of_text}
use Rattle.text_lines.proofs.laws.law_of_rows.Goals as goal

pub returns-clause-rows : goal.returns-clause-rows
returns-clause-rows c = rows_of_text

pub returns-clause-only : goal.returns-clause-only
returns-clause-only c = λ m text rows are. only_rows m text _ rows (rows_of_text m text) are
