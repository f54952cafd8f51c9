use Rattle.std.proofs.Common.{arith, get_or, []}
use Rattle.ts_sections.specs.declared.crc.TheConstants.{TABLES}
use Rattle.ts_sections.proofs.Tables.{by_table}
use Rattle.ts_sections.proofs.TableEntries.{tables_hold}
use Rattle.ts_sections.proofs.crc.shift_in.Goals as goal

pub returns : goal.returns
returns c = by_table (get_or TABLES 0 []) c.args.register c.args.byte (tables_hold 0 (omega arith)) (omega arith) (omega arith)
