use Rattle.std.proofs.Common.{◌≡◌, length, refl, ap, ◌∙◌, arith}
use Rattle.carousel_blocks.specs.InForce.{block_count}
use Rattle.carousel_writer.proofs.BlockLoop.{block-sent, blocks-sent, count-is}
use Rattle.carousel_writer.proofs.streams.push_blocks.Goals as goal

pub loop-number-preserved : goal.loop-number-preserved
loop-number-preserved c = record {
  sent = block-sent c.args.files.now c.args.file.now _ _ _ _ _ _ _ _ _ _ c.as_slice-bytes.ensures.value c.min.ensures refl c.loop-number.invariant.sent c.in_ok-next.ensures.sent;
  small = c.in_ok-next.ensures.small;
}

pub returns-clause-sent : goal.returns-clause-sent
returns-clause-sent c =
    let same : c.loop-number.number ≡ c.div_ceil-number-end.result = omega (arith, c.loop-number.auto.number-end, c.loop-number-test.false) in
    blocks-sent c.args.files.now c.args.file.now _ _ _ _ _
    (same ∙ c.div_ceil-number-end.ensures ∙ count-is c.law_of_block_counts.ensures _ _ c.requires.positive ∙ ap (λ x. block_count c.args.files.now.block_size (length x)) c.as_slice-bytes.ensures.value)
    c.loop-number.invariant.sent
