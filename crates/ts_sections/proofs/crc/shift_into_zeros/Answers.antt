use Rattle.ts_sections.specs.declared.crc.TheConstants.{TABLES}
use Rattle.ts_sections.proofs.EightBytes.{number_by_tables}
use Rattle.ts_sections.proofs.TableEntries.{tables_hold}
use Rattle.ts_sections.proofs.crc.shift_into_zeros.Goals as goal

pub returns : goal.returns
returns c = number_by_tables TABLES c.args.number c.to_be_bytes.result tables_hold c.to_be_bytes.ensures
