use Rattle.section_writer.proofs.Carrying.{none-carried, sections-carried}
use Rattle.section_writer.proofs.laws.law_of_carried_sections.Goals as goal

pub returns-clause-none : goal.returns-clause-none
returns-clause-none c = none-carried c.laws_below.ensures

pub returns-clause-read : goal.returns-clause-read
returns-clause-read c = sections-carried c.laws_below.ensures
