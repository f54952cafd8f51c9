use Rattle.style_reader.proofs.SheetLaws.{sheet_of-spelled, sheet_of-spells}
use Rattle.style_reader.proofs.laws.law_of_sheets.Goals as goal

pub returns-clause-spelled : goal.returns-clause-spelled
returns-clause-spelled c = sheet_of-spells

pub returns-clause-one : goal.returns-clause-one
returns-clause-one c = sheet_of-spelled
