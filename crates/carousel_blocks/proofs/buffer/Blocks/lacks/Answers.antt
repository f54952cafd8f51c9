use Rattle.std.proofs.Common.{ap, ap₂, sym, ◌∙◌}
use Rattle.std.specs.Prelude.{slice_get}
use Rattle.carousel_blocks.specs.Buffers.{is_missing, is_unmarked}
use Rattle.carousel_blocks.proofs.BufferLaws.{is_missing-blocks_in}
use Rattle.carousel_blocks.proofs.buffer.Blocks.lacks.Goals as goal

pub returns : goal.returns
returns c =
    let b = c.self.inside in
    c.is_unmarked.ensures ∙ ap₂ (λ l n. is_unmarked (slice_get l n)) c.deref.ensures.value c.from.ensures
    ∙ sym (is_missing-blocks_in b.shape.block_size b.marks.items b.bytes.items c.args.number) ∙ ap (λ v. is_missing (slice_get v.blocks c.args.number)) c.self.view_is
