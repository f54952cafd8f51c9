use Rattle.std.proofs.Common.{List, ℕ, ◌+◌, ap, ◌∙◌, sym, subst, take, drop, arith}
use Rattle.std.specs.Prelude.{is_some}
use Rattle.std.proofs.lemmas.List.{take_all, take-append-drop, take_more}
use Rattle.acting_documents.specs.devices.Doings.{Does}
use Rattle.acting_documents.specs.devices.Kept.{KeptDocument}
use Rattle.acting_documents.specs.Beginnings.{run_scripts as spec_run_scripts}
use Rattle.acting_documents.proofs.DoingLemmas.{does_grows, does_scripts-more, does_scripts-stopped}
use Rattle.acting_documents.proofs.documents.ActingDocument.run_places.Goals as goal

pub scripts-init : goal.scripts-init
scripts-init c =
    let out = c.args.out.now.items in
    let does = c.do_nothing.ensures.does out in
    (does, does_grows _ c.args.self.now c.do_nothing.new.self out out does)

pub returns-then-has_launched-clause-does : goal.returns-then-has_launched-clause-does
returns-then-has_launched-clause-does c =
    let places = c.args.places.now in
    let index = c.scripts.place-index in
    let old = c.args.self.now in
    let new = c.scripts.self in
    let before = c.args.out.now.items in
    let after = c.scripts.out.items in
    subst (λ (all : List ℕ). Does (spec_run_scripts all) old new before after) (take-append-drop index places)
    (does_scripts-stopped (take index places) (drop index places) old new before after
    (ap (λ (k : KeptDocument). is_some k.launched) (sym c.self.view_is) ∙ (sym c.has_launched.ensures ∙ c.if-has_launched.true)) c.scripts.invariant.0)

pub returns-then-has_launched-clause-grows : goal.returns-then-has_launched-clause-grows
returns-then-has_launched-clause-grows c = c.scripts.invariant.1

pub scripts-preserved : goal.scripts-preserved
scripts-preserved c =
    let places = c.args.places.now in
    let index = c.scripts.place-index in
    let old = c.args.self.now in
    let new = c.run_program.new.self in
    let before = c.args.out.now.items in
    let after = c.run_program.new.out.items in
    let does : Does (spec_run_scripts (take (index + 1) places)) old new before after =
    subst (λ (all : List ℕ). Does (spec_run_scripts all) old new before after) (sym (take_more places index _ (omega arith)))
    (does_scripts-more (take index places) _ c.none.result old c.scripts.self new before c.scripts.out.items after c.none.ensures
    (ap (λ (k : KeptDocument). is_some k.launched) (sym c.self.view_is) ∙ (sym c.has_launched.ensures ∙ c.if-has_launched.false)) c.scripts.invariant.0 c.in_ok-run_program.ensures.does) in
    (does, does_grows (spec_run_scripts (take (index + 1) places)) old new before after does)

pub returns-clause-does : goal.returns-clause-does
returns-clause-does c =
    subst (λ (all : List ℕ). Does (spec_run_scripts all) c.args.self.now c.scripts.self c.args.out.now.items c.scripts.out.items)
    (take_all c.scripts.place-index c.args.places.now (omega arith)) c.scripts.invariant.0
