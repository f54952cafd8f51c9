use Rattle.ts_sections.proofs.CrcLaws.{remainder_is_register}
use Rattle.ts_sections.proofs.crc.remainder_by_register.Goals as goal

pub returns : goal.returns
returns c = remainder_is_register
