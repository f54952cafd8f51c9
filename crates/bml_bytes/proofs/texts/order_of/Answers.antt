use Rattle.std.proofs.Common.{◌∙◌, ap, sym, drop, length, List, ℕ}
use Rattle.std.specs.Cmp.Lexicographic.{slice_cmp}
use Rattle.std.specs.Ordering.{nat_cmp}
use Rattle.bml_bytes.proofs.OrderLemmas.{behind_block}
use Rattle.bml_bytes.proofs.texts.order_of.Goals as goal

pub blocks-2-preserved : goal.blocks-2-preserved
blocks-2-preserved c =
    c.blocks-2.invariant
    ∙ behind_block 64 c.blocks-2.left.now c.blocks-2.right.now c.split_at.result.0.now (sym c.split_at.ensures.front) c.in-Some.ensures.cases.0
    ∙ ap (λ (xs : List ℕ). slice_cmp nat_cmp xs (drop (length c.split_at.result.0.now) c.blocks-2.right.now)) (sym c.split_at.ensures.back)
    ∙ ap (slice_cmp nat_cmp c.split_at.result.1.now) (sym c.in-Some.ensures.cases.1)
