use Rattle.ts_sections.proofs.CrcLaws.{own_crc, only_own_crc}
use Rattle.ts_sections.proofs.crc.crc_behind_its_message.Goals as goal

pub returns : goal.returns
returns c = record { own = own_crc; only = only_own_crc }
