use Rattle.std.proofs.Common.{ap, ◌∙◌, sym}
use Rattle.std.specs.Prelude.{is_some}
use Rattle.std.proofs.lemmas.Result.{on_ok_weaker}
use Rattle.acting_documents.specs.devices.Doings.{Does}
use Rattle.acting_documents.specs.devices.Kept.{KeptDocument}
use Rattle.acting_documents.specs.Beginnings.{begin as spec_begin, load_effect, run_scripts, script_places}
use Rattle.acting_documents.proofs.DoingLemmas.{does_stopped, does_then}
use Rattle.acting_documents.proofs.documents.ActingDocument.begin.Goals as goal

pub returns-then-has_launched-clause-does : goal.returns-then-has_launched-clause-does
unfolding load_effect
returns-then-has_launched-clause-does c =
    does_stopped (λ s. run_scripts (script_places s.document) s) spec_begin c.args.self.now c.run_scripts.new.self c.args.out.now.items c.run_scripts.new.out.items
    (ap (λ (k : KeptDocument). is_some k.launched) (sym c.self.view_is) ∙ (sym c.has_launched.ensures ∙ c.if-has_launched.true)) c.in_ok-run_scripts.ensures.does

pub returns-clause-does : goal.returns-clause-does
unfolding load_effect
returns-clause-does c =
    let old = c.args.self.now in
    let middle = c.run_scripts.new.self in
    let new = c.begin_events.new.self in
    let before = c.args.out.now.items in
    let between = c.run_scripts.new.out.items in
    let after = c.begin_events.new.out.items in
    on_ok_weaker {Q = Does load_effect old new before after} c.begin_events.result
    (λ begins. does_then (λ s. run_scripts (script_places s.document) s) spec_begin old middle new before between after
    (ap (λ (k : KeptDocument). is_some k.launched) (sym c.self.view_is) ∙ (sym c.has_launched.ensures ∙ c.if-has_launched.false)) c.in_ok-run_scripts.ensures.does begins)
    c.begin_events.ensures.does
