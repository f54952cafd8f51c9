use Rattle.ts_sections.proofs.SendingLaws.{before_stuffing}
use Rattle.ts_sections.proofs.laws.section_before_stuffing.Goals as goal

pub returns : goal.returns
returns c = before_stuffing
