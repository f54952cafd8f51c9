use Rattle.section_writer.proofs.SectionLaws.{IsIntact-written, IsSection-written, length-section}
use Rattle.section_writer.proofs.laws.law_of_written_sections.Goals as goal

pub returns-clause-size : goal.returns-clause-size
returns-clause-size c = length-section

pub returns-clause-intact : goal.returns-clause-intact
returns-clause-intact c = IsIntact-written c.laws_below.ensures

pub returns-clause-one : goal.returns-clause-one
returns-clause-one c = IsSection-written
