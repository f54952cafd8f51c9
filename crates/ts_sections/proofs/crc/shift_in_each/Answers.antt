use Rattle.std.proofs.Common.{sym, ◌∙◌, arith}
use Rattle.ts_sections.specs.Crc.{bits_of_number}
use Rattle.ts_sections.proofs.CrcLaws.{behind_more, behind_all}
use Rattle.ts_sections.proofs.crc.shift_in_each.Goals as goal

pub loop-byte-preserved : goal.loop-byte-preserved
loop-byte-preserved c =
    behind_more c.args.bytes.now c.loop-byte.byte-index c.loop-byte.register c.shift_in-register.result (omega arith) c.shift_in-register.ensures ∙ c.loop-byte.invariant

pub returns : goal.returns
returns c =
    sym (behind_all c.args.bytes.now c.loop-byte.byte-index (bits_of_number 32 c.loop-byte.register) (omega arith)) ∙ c.loop-byte.invariant
