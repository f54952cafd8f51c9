use Rattle.std.proofs.Common.{◌≡◌, ◌<◌, ◌∙◌, length, ap, arith}
use Rattle.std.specs.Int.{div_ceil}
use Rattle.carousel_writer.specs.devices.Laying.{AreUnskipped, HaveOwnNumbers}
use Rattle.carousel_writer.proofs.GoodFileLaws.{good-fields, own-numbers}
use Rattle.carousel_writer.specs.devices.LawsBelow.{Limits}
use Rattle.carousel_writer.proofs.BlockLoop.{count-is}
use Rattle.carousel_writer.proofs.Skipping.{next-unskipped, next-follows, sum-more, refused}
use Rattle.carousel_writer.proofs.good_files.are_small.Goals as goal

pub returns-then-size-gt1048576 : goal.returns-then-size-gt1048576
returns-then-size-gt1048576 c =
    let v = c.deref-file-items.ensures.value in
    let t = c.modules-test.true in
    let i = c.file-item.is in
    let size : length c.as_slice-bytes.result.now ≡ length c.file-item.result.bytes.items = ap length c.as_slice-bytes.ensures.value in
    let laws : Limits = c.laws_below.ensures.limits in
    let fields = good-fields c.args.files.now c.requires.fields in
    let positive : 0 < c.args.files.now.block_size = omega (arith, fields.least_block) in
    let own : HaveOwnNumbers c.args.files.now.modules.items = own-numbers c.args.files.now.modules.items c.requires.numbers in
    refused (AreUnskipped c.args.files.now c.args.files.now.modules.items) (λ all. let f = next-follows laws c.args.files.now c.modules.file-index c.file-item.result positive own (rw v at t) (rw v at i) c.modules.invariant.unskipped all in omega (arith, f.size, size, c.if-size-gt1048576.true))

pub returns-then-div_ceil-gt65536 : goal.returns-then-div_ceil-gt65536
returns-then-div_ceil-gt65536 c =
    let v = c.deref-file-items.ensures.value in
    let t = c.modules-test.true in
    let i = c.file-item.is in
    let size : length c.as_slice-bytes.result.now ≡ length c.file-item.result.bytes.items = ap length c.as_slice-bytes.ensures.value in
    let laws : Limits = c.laws_below.ensures.limits in
    let fields = good-fields c.args.files.now c.requires.fields in
    let positive : 0 < c.args.files.now.block_size = omega (arith, fields.least_block) in
    let own : HaveOwnNumbers c.args.files.now.modules.items = own-numbers c.args.files.now.modules.items c.requires.numbers in
    let b = c.div_ceil.ensures ∙ ap (λ n. div_ceil n c.args.files.now.block_size) size ∙ count-is laws.block_counts c.args.files.now.block_size (length c.file-item.result.bytes.items) positive in
    refused (AreUnskipped c.args.files.now c.args.files.now.modules.items) (λ all. let f = next-follows laws c.args.files.now c.modules.file-index c.file-item.result positive own (rw v at t) (rw v at i) c.modules.invariant.unskipped all in omega (arith, f.blocks, b, c.if-div_ceil-gt65536.true))

pub returns-then-sum-size-gt33554432 : goal.returns-then-sum-size-gt33554432
returns-then-sum-size-gt33554432 c =
    let v = c.deref-file-items.ensures.value in
    let t = c.modules-test.true in
    let i = c.file-item.is in
    let size : length c.as_slice-bytes.result.now ≡ length c.file-item.result.bytes.items = ap length c.as_slice-bytes.ensures.value in
    let laws : Limits = c.laws_below.ensures.limits in
    let fields = good-fields c.args.files.now c.requires.fields in
    let positive : 0 < c.args.files.now.block_size = omega (arith, fields.least_block) in
    let own : HaveOwnNumbers c.args.files.now.modules.items = own-numbers c.args.files.now.modules.items c.requires.numbers in
    refused (AreUnskipped c.args.files.now c.args.files.now.modules.items) (λ all. let f = next-follows laws c.args.files.now c.modules.file-index c.file-item.result positive own (rw v at t) (rw v at i) c.modules.invariant.unskipped all in omega (arith, f.sum, c.modules.invariant.sum, size, c.if-sum-size-gt33554432.true))

pub modules-preserved : goal.modules-preserved
modules-preserved c =
    let v = c.deref-file-items.ensures.value in
    let t = c.modules-test.true in
    let i = c.file-item.is in
    let size : length c.as_slice-bytes.result.now ≡ length c.file-item.result.bytes.items = ap length c.as_slice-bytes.ensures.value in
    let laws : Limits = c.laws_below.ensures.limits in
    let fields = good-fields c.args.files.now c.requires.fields in
    let positive : 0 < c.args.files.now.block_size = omega (arith, fields.least_block) in
    let own : HaveOwnNumbers c.args.files.now.modules.items = own-numbers c.args.files.now.modules.items c.requires.numbers in
    let b = c.div_ceil.ensures ∙ ap (λ n. div_ceil n c.args.files.now.block_size) size ∙ count-is laws.block_counts c.args.files.now.block_size (length c.file-item.result.bytes.items) positive in
    record {
      unskipped = next-unskipped laws c.args.files.now c.modules.file-index c.file-item.result positive own (rw v at t) (rw v at i) c.modules.invariant.unskipped
          (record { size = omega (arith, size, c.if-size-gt1048576.false); blocks = omega (arith, b, c.if-div_ceil-gt65536.false); sum = omega (arith, c.modules.invariant.sum, size, c.if-sum-size-gt33554432.false) });
      sum = omega (arith, c.modules.invariant.sum, size, sum-more c.args.files.now.modules.items c.modules.file-index c.file-item.result (rw v at t) (rw v at i));
      most = c.if-sum-size-gt33554432.false;
    }
