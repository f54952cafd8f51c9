use Rattle.style_reader.proofs.RuleLaws.{inline-one, inline-read, sheet-one, sheet-read}
use Rattle.style_reader.proofs.laws.law_of_rules.Goals as goal

pub returns-clause-sheet : goal.returns-clause-sheet
returns-clause-sheet c = sheet-read

pub returns-clause-one_sheet : goal.returns-clause-one_sheet
returns-clause-one_sheet c = sheet-one

pub returns-clause-inline : goal.returns-clause-inline
returns-clause-inline c = inline-read

pub returns-clause-one_inline : goal.returns-clause-one_inline
returns-clause-one_inline c = inline-one
