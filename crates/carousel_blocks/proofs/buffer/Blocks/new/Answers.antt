use Rattle.std.proofs.Common.{◌∙◌, ap, sym, length, replicate, List, ℕ, false}
use Rattle.std.proofs.lemmas.List.{length-replicate}
use Rattle.std.specs.Prelude.{Option, None}
use Rattle.carousel_blocks.specs.Buffers.{BufferState, blocks_in, missing_in}
use Rattle.carousel_blocks.proofs.BufferLaws.{blocks_in-unmarked, missing_in-unmarked}
use Rattle.carousel_blocks.proofs.buffer.Blocks.new.Goals as goal

pub invariant_of-result : goal.invariant_of-result
invariant_of-result c =
    let bytes = c.in_ok-vec.ensures.items_if_clones_equal (λ y h. h) in
    let marks = c.in_ok-vec-2.ensures.items_if_clones_equal (λ y h. h) in
    let count = c.block_count-count.result in
    record {
      size_is = ap length bytes ∙ length-replicate c.args.shape.size 0;
      count = ap length marks ∙ length-replicate count false ∙ c.block_count-count.ensures;
      missing_is = missing_in-unmarked count ∙ ap missing_in (sym marks);
      covers = c.requires;
    }

pub returns : goal.returns
returns c =
    let shape = c.args.shape in
    let bytes = c.in_ok-vec.field-0.items in
    let marks = c.in_ok-vec-2.ensures.items_if_clones_equal (λ y h. h) in
    let count = c.block_count-count.result in
    ap (λ (l : List (Option (List ℕ))). let k : BufferState = record { shape = shape; blocks = l } in k)
    (ap (λ m. blocks_in shape.block_size m bytes) marks ∙ blocks_in-unmarked shape.block_size count bytes ∙ ap (λ n. replicate n None) c.block_count-count.ensures)
