use Rattle.std.proofs.Common.{◌≡◌, ◌+◌, ◌<◌, ◌≤◌, ◌∙◌, ℕ, Bool, true, false, List, length, length-set, ap, ap₂, sym, subst, arith}
use Rattle.std.specs.Prelude.{slice_get, slice_set, Option, None}
use Rattle.carousel_blocks.specs.Buffers.{BufferState, blocks_in, missing_in, is_marked, without_block_at}
use Rattle.carousel_blocks.proofs.BufferLaws.{viewed, blocks_in-taken, not_marked, missing_in-taken, missing_in-at_most}
use Rattle.carousel_blocks.proofs.buffer.Blocks.take_back.Goals as goal

pub overflow_add-self : goal.overflow_add-self
overflow_add-self c =
    let marks = c.self.inside.marks.items in
    let place = c.from-place.result in
    let marked : is_marked (slice_get marks place) ≡ true = ap (λ (l : List Bool). is_marked (slice_get l place)) (sym c.deref.ensures.value) ∙ sym c.is_marked.ensures ∙ c.if-is_marked.true in
    let more = missing_in-taken marks place marked in
    let most = missing_in-at_most (slice_set marks place false) in
    omega (arith, more, most, length-set marks place false, c.self.invariant.missing_is, ap (λ (l : List Bool). length l) c.deref.ensures.value, c.deref.type_inv.0)

pub invariant_of-self : goal.invariant_of-self
invariant_of-self c =
    let marks = c.self.inside.marks.items in
    let place = c.from-place.result in
    let marked : is_marked (slice_get marks place) ≡ true = ap (λ (l : List Bool). is_marked (slice_get l place)) (sym c.deref.ensures.value) ∙ sym c.is_marked.ensures ∙ c.if-is_marked.true in
    let i = c.self.invariant in
    record {
      size_is = i.size_is;
      count = length-set marks place false ∙ i.count;
      missing_is = ap (λ n. n + 1) i.missing_is ∙ sym (missing_in-taken marks place marked);
      covers = i.covers;
    }

pub returns-then-is_marked : goal.returns-then-is_marked
returns-then-is_marked c =
    let b = c.self.inside in
    let place = c.from-place.result in
    ap (λ (l : List (Option (List ℕ))). let k : BufferState = record { shape = b.shape; blocks = l } in k) (blocks_in-taken b.shape.block_size b.marks.items b.bytes.items place)
    ∙ ap (without_block_at place) c.self.view_is ∙ ap (λ n. without_block_at n c.args.self.now) c.from-place.ensures

pub returns-else-is_marked : goal.returns-else-is_marked
returns-else-is_marked c =
    let b = c.self.inside in
    let place = c.from-place.result in
    let marks = b.marks.items in
    let unmarked : is_marked (slice_get marks place) ≡ false = ap (λ (l : List Bool). is_marked (slice_get l place)) (sym c.deref.ensures.value) ∙ sym c.is_marked.ensures ∙ c.if-is_marked.false in
    sym (ap (λ n. without_block_at n c.args.self.now) (sym c.from-place.ensures) ∙ ap (without_block_at place) (sym c.self.view_is)
    ∙ ap (λ (l : List (Option (List ℕ))). let k : BufferState = record { shape = b.shape; blocks = l } in k)
    (sym (blocks_in-taken b.shape.block_size marks b.bytes.items place) ∙ ap (λ m. blocks_in b.shape.block_size m b.bytes.items) (not_marked marks place unmarked))
    ∙ c.self.view_is)
