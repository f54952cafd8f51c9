use Rattle.std.proofs.Common.{sym}
use Rattle.rand_pcg.proofs.LcgLemmas.{advance_zero}
use Rattle.rand_pcg.specs.Pcg.{multiplier_64}
use Rattle.file_generator.proofs.Drawing.{byte-drawn}
use Rattle.file_generator.proofs.modules.draw_bytes.Goals as goal

pub loop-number-init : goal.loop-number-init
loop-number-init c = record { bytes = c.new-bytes.ensures.items; words = sym (advance_zero 64 multiplier_64 c.args.words.now) }

pub loop-number-preserved : goal.loop-number-preserved
loop-number-preserved c =
    let h = byte-drawn c.loop-number.number _ _ _ _ _ _ c.loop-number.invariant.words c.next_word.ensures c.loop-number.invariant.bytes c.in_ok-push.ensures.items in
    record { bytes = h.0; words = h.1 }
