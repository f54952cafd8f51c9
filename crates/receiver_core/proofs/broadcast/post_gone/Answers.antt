use Rattle.std.proofs.Common.{◌∙◌, ℕ, List, refl, subst}
use Rattle.std.proofs.lemmas.List.{take_all}
use Rattle.carousel_blocks.specs.declared.changes.Change.{Change}
use Rattle.page.specs.Standing.{Posts}
use Rattle.receiver_core.proofs.PostingLaws.{posts_next, posts_none}
use Rattle.receiver_core.proofs.broadcast.post_gone.Goals as goal

pub changes-init : goal.changes-init
changes-init c = record {
  posted = posts_none c.args.page.now c.args.out.now.items;
  clock = refl;
}

pub changes-preserved : goal.changes-preserved
changes-preserved c = record {
  posted =
      posts_next c.args.gone.now c.changes.component-index _ c.args.page.now c.changes.page c.post_change.new.self c.args.out.now.items c.changes.out.items
      c.post_change.new.out.items c.changes-test.true c.changes.invariant.posted c.in_ok-post_change.ensures.posted;
  clock = c.post_change.ensures.clock ∙ c.changes.invariant.clock;
}

pub returns-clause-posted : goal.returns-clause-posted
returns-clause-posted c =
    subst (λ (l : List (ℕ × Change)). Posts l c.args.page.now c.changes.page c.args.out.now.items c.changes.out.items)
    (take_all c.changes.component-index c.args.gone.now c.changes-test.false) c.changes.invariant.posted
