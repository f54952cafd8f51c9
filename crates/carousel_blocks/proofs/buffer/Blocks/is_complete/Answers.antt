use Rattle.std.proofs.Common.{ap, ◌∙◌, nat_eq}
use Rattle.carousel_blocks.specs.Buffers.{all_came}
use Rattle.carousel_blocks.proofs.BufferLaws.{complete_by_missing}
use Rattle.carousel_blocks.proofs.buffer.Blocks.is_complete.Goals as goal

pub returns : goal.returns
returns c =
    let b = c.self.inside in
    ap (λ n. nat_eq n 0) c.self.invariant.missing_is ∙ complete_by_missing b.shape.block_size b.marks.items b.bytes.items ∙ ap (λ v. all_came v.blocks) c.self.view_is
