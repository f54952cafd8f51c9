use Rattle.std.proofs.Common.{ap, ◌∙◌, arith}
use Rattle.ts_sections.specs.Crc.{bits_of, register_behind}
use Rattle.ts_sections.proofs.CrcLaws.{all_ones, behind_both, register_is_remainder}
use Rattle.ts_sections.proofs.crc.crc_of.Goals as goal

pub loop-eight-init : goal.loop-eight-init
loop-eight-init c = ap (λ v. register_behind v (bits_of c.args.bytes.now)) all_ones

pub loop-eight-preserved : goal.loop-eight-preserved
loop-eight-preserved c =
    let parts = c.in-Some.ensures.cases in
    behind_both c.loop-eight.rest.now c.in-Some.eight.now c.in-Some.behind.now 8 c.loop-eight.register c.shift_in_eight-register.result parts.0 parts.1 c.shift_in_eight-register.ensures
    ∙ c.loop-eight.invariant

pub returns : goal.returns
returns c = register_is_remainder c.args.bytes.now c.shift_in_each.result (omega arith) (c.shift_in_each.ensures ∙ c.loop-eight.invariant)
