use Rattle.std.proofs.Common.{◌≡◌, ◌∙◌, length, refl, ap, arith}
use Rattle.document_stages.specs.Acting.{module_post}
use Rattle.document_stages.specs.Stages.{StageState}
use Rattle.document_stages.proofs.ItemLemmas.{all-told, module-keeps, none-told, one-more-told}
use Rattle.document_stages.proofs.stages.Stage.tell_all_updated.Goals as goal

pub items-init : goal.items-init
items-init c = record { told = none-told (module_post c.args.component c.args.«module» c.args.status) c.args.self.now.acting; worked = refl }

pub items-preserved : goal.items-preserved
items-preserved c = record {
  told =
      one-more-told (module_post c.args.component c.args.«module» c.args.status) (module-keeps c.args.component c.args.«module» c.args.status) c.items.place c.args.self.now.acting c.items.self.acting _ c.items.invariant.told c.in_ok-tell_updated.ensures.told;
  worked = c.tell_updated.ensures.worked ∙ c.items.invariant.worked;
}

pub returns-clause-told : goal.returns-clause-told
returns-clause-told c =
    let same = ap (λ (s : StageState). length s.acting.items.items) c.self.view_is in
    let all : c.items.place ≡ length c.args.self.now.acting.items.items = omega (arith, same) in
    all-told (module_post c.args.component c.args.«module» c.args.status) c.items.place c.args.self.now.acting c.items.self.acting all c.items.invariant.told
