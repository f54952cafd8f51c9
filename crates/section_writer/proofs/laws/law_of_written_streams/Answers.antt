use Rattle.section_writer.proofs.Carrying.{packets-whole, sections-whole}
use Rattle.section_writer.proofs.laws.law_of_written_streams.Goals as goal

pub returns-clause-packets : goal.returns-clause-packets
returns-clause-packets c = packets-whole c.laws_below.ensures

pub returns-clause-sections : goal.returns-clause-sections
returns-clause-sections c = sections-whole c.laws_below.ensures
