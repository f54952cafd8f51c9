use Rattle.std.proofs.Common.{◌≡◌, ◌∙◌, length, refl, ap, arith}
use Rattle.document_stages.specs.Acting.{button_posts, button_post}
use Rattle.document_stages.specs.Stages.{StageState}
use Rattle.document_stages.proofs.ItemLemmas.{all-told, button-keeps, none-told, one-more-told}
use Rattle.document_stages.proofs.stages.Stage.tell_all_button.Goals as goal

pub items-init : goal.items-init
items-init c = record { told = none-told button_post c.args.self.now.acting; worked = refl }

pub items-preserved : goal.items-preserved
items-preserved c = record {
  told =
      one-more-told button_post button-keeps c.items.place c.args.self.now.acting c.items.self.acting _ c.items.invariant.told c.in_ok-tell_pressed.ensures.told;
  worked = c.tell_pressed.ensures.worked ∙ c.items.invariant.worked;
}

pub returns-clause-told : goal.returns-clause-told
unfolding button_posts
returns-clause-told c =
    let same = ap (λ (s : StageState). length s.acting.items.items) c.self.view_is in
    let all : c.items.place ≡ length c.args.self.now.acting.items.items = omega (arith, same) in
    all-told button_post c.items.place c.args.self.now.acting c.items.self.acting all c.items.invariant.told
