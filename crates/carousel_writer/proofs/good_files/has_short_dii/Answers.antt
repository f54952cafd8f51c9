use Rattle.std.proofs.Common.{◌+◌, arith}
use Rattle.carousel_writer.proofs.DiiSizes.{short_enough, size-more, too_long}
use Rattle.carousel_writer.proofs.good_files.has_short_dii.Goals as goal

pub returns-then-size-gt-MOST_SECTION_BYTES : goal.returns-then-size-gt-MOST_SECTION_BYTES
returns-then-size-gt-MOST_SECTION_BYTES c =
    let v = c.deref-file-items.ensures.value in
    let t = c.modules-test.true in
    let i = c.file-item.is in
    let more = size-more c.args.files.now.modules.items c.modules.file-index c.file-item.result (rw v at t) (rw v at i) in
    too_long c.laws_below.ensures.limits.count c.args.files.now (c.modules.file-index + 1) (omega (arith, more, c.modules.invariant.size, c.in_ok-size.ensures.size, c.if-size-gt-MOST_SECTION_BYTES.true))

pub returns : goal.returns
returns c =
    let v = c.deref-file-items.ensures.value in
    let t = c.modules-test.false in
    short_enough c.laws_below.ensures.limits.count c.args.files.now c.modules.file-index (rw v at t) (omega (arith, c.modules.invariant.size, c.modules.invariant.most))
