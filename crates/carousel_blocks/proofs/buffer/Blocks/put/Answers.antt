use Rattle.std.proofs.Common.{◌∙◌, ◌≡◌, ℕ, List, ap, ap₂, true, arith}
use Rattle.std.specs.Prelude.{slice_get, slice_set}
use Rattle.carousel_blocks.specs.Buffers.{is_unmarked, overwritten, with_block_at}
use Rattle.carousel_blocks.proofs.BufferLaws.{viewed, unmarked_by, room_by, ends_within, missing_in-marked, sound_with, view_with, within_marks}
use Rattle.carousel_blocks.proofs.buffer.Blocks.put.Goals as goal

pub write_block-requires : goal.write_block-requires
write_block-requires c =
    let b = c.self.inside in
    let n = c.args.number in
    let block = c.args.block.now in
    let unmarked : is_unmarked (slice_get b.marks.items n) ≡ true = unmarked_by b.shape b.marks.items b.bytes.items n c.args.self.now c.self.view_is c.requires.missing in
    let room = room_by b.shape b.marks.items b.bytes.items b.missing n block c.args.self.now c.self.view_is c.self.invariant c.requires.missing c.requires.length in
    let e = c.start_of-start.ensures in
    let h = ends_within b.shape b.bytes.items n block room in
    omega arith

pub index_mut-requires : goal.index_mut-requires
index_mut-requires c =
    let b = c.self.inside in
    let n = c.args.number in
    let block = c.args.block.now in
    let unmarked : is_unmarked (slice_get b.marks.items n) ≡ true = unmarked_by b.shape b.marks.items b.bytes.items n c.args.self.now c.self.view_is c.requires.missing in
    let l = within_marks b.marks.items n unmarked in
    let e = c.from-place.ensures in
    omega arith

pub overflow_sub-self : goal.overflow_sub-self
overflow_sub-self c =
    let b = c.self.inside in
    let n = c.args.number in
    let block = c.args.block.now in
    let unmarked : is_unmarked (slice_get b.marks.items n) ≡ true = unmarked_by b.shape b.marks.items b.bytes.items n c.args.self.now c.self.view_is c.requires.missing in
    let e = missing_in-marked b.marks.items n unmarked in
    let m = c.self.invariant.missing_is in
    omega arith

pub invariant_of-self : goal.invariant_of-self
invariant_of-self c =
    let b = c.self.inside in
    let n = c.args.number in
    let block = c.args.block.now in
    let unmarked : is_unmarked (slice_get b.marks.items n) ≡ true = unmarked_by b.shape b.marks.items b.bytes.items n c.args.self.now c.self.view_is c.requires.missing in
    let room = room_by b.shape b.marks.items b.bytes.items b.missing n block c.args.self.now c.self.view_is c.self.invariant c.requires.missing c.requires.length in
    rw (c.write_block.ensures, c.start_of-start.ensures, c.from-place.ensures) (sound_with b.shape b.bytes.items b.marks.items b.missing n block c.self.invariant room unmarked)

pub returns : goal.returns
returns c =
    let b = c.self.inside in
    let n = c.args.number in
    let block = c.args.block.now in
    let unmarked : is_unmarked (slice_get b.marks.items n) ≡ true = unmarked_by b.shape b.marks.items b.bytes.items n c.args.self.now c.self.view_is c.requires.missing in
    let room = room_by b.shape b.marks.items b.bytes.items b.missing n block c.args.self.now c.self.view_is c.self.invariant c.requires.missing c.requires.length in
    ap₂ (λ (bytes : List ℕ) (k : ℕ). viewed b.shape (slice_set b.marks.items k true) bytes)
    (c.write_block.ensures ∙ ap (λ start. overwritten start block b.bytes.items) c.start_of-start.ensures) c.from-place.ensures
    ∙ view_with b.shape b.bytes.items b.marks.items n block room unmarked ∙ ap (with_block_at n block) c.self.view_is
