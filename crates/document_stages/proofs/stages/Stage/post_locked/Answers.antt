use Rattle.std.proofs.Common.{◌≡◌, ◌∙◌, length, refl, ap, arith}
use Rattle.document_stages.specs.Acting.{lock_post, lock_posts}
use Rattle.document_stages.specs.Stages.{StageState}
use Rattle.document_stages.proofs.ItemLemmas.{all-told, lock-keeps, none-told, one-more-told}
use Rattle.document_stages.proofs.stages.Stage.post_locked.Goals as goal

pub items-init : goal.items-init
items-init c = record { told = none-told (lock_post c.args.component c.args.«module») c.args.self.now.acting; worked = refl }

pub items-preserved : goal.items-preserved
items-preserved c = record {
  told =
      one-more-told (lock_post c.args.component c.args.«module») (lock-keeps c.args.component c.args.«module») c.items.place c.args.self.now.acting c.items.self.acting _ c.items.invariant.told c.in_ok-tell_locked.ensures.told;
  worked = c.tell_locked.ensures.worked ∙ c.items.invariant.worked;
}

pub returns-clause-posted : goal.returns-clause-posted
unfolding lock_posts
returns-clause-posted c =
    let same = ap (λ (s : StageState). length s.acting.items.items) c.self.view_is in
    let all : c.items.place ≡ length c.args.self.now.acting.items.items = omega (arith, same) in
    all-told (lock_post c.args.component c.args.«module») c.items.place c.args.self.now.acting c.items.self.acting all c.items.invariant.told
