use Rattle.std.proofs.Common.{◌≡◌, ◌∙◌, ℕ, ◌+◌, Vec, Global, ap, arith}
use Rattle.carousel_blocks.specs.declared.changes.Change.{Change}
use Rattle.module_store.proofs.GoneLaws.{gone_below_more, gone_below_all}
use Rattle.module_store.proofs.store.Store.gone_by.Goals as goal
use Rattle.module_store.proofs.store.Store.gone_by.Goals.{else-tags-test, then-tags-test+in_ok-add_gone+else-tag-lt255}

pub tags-preserved : goal.tags-preserved
tags-preserved c = λ stored stands.
    gone_below_more c.tags.tag c.args.components.now stored c.tags.gone.items c.add_gone.new.gone.items (c.tags.invariant stored stands) (c.in_ok-add_gone.ensures stored stands)

pub returns : goal.returns
returns c = λ stored stands.
    elim c.tags-test.branch [
      | else-tags-test w ↦ absurd (omega arith)
      | then-tags-test+in_ok-add_gone+else-tag-lt255 w ↦
          let all : c.tags.tag + 1 ≡ 256 = omega arith in
          ap (λ (v : Vec (ℕ × Change) Global). v.items) w.gone-is
          ∙ gone_below_more c.tags.tag c.args.components.now stored c.tags.gone.items w.add_gone.new.gone.items (c.tags.invariant stored stands) (w.in_ok-add_gone.ensures stored stands)
          ∙ gone_below_all (c.tags.tag + 1) c.args.components.now stored all
    ]
