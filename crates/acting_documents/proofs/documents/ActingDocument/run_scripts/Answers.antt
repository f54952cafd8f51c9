use Rattle.std.proofs.Common.{List, ℕ, subst}
use Rattle.std.proofs.lemmas.Result.{on_ok_weaker}
use Rattle.acting_documents.specs.devices.Doings.{Does}
use Rattle.acting_documents.specs.Beginnings.{run_scripts as spec_run_scripts, script_places}
use Rattle.acting_documents.proofs.DoingLemmas.{does_scripts}
use Rattle.acting_documents.proofs.documents.ActingDocument.run_scripts.Goals as goal

pub returns-clause-does : goal.returns-clause-does
returns-clause-does c =
    let old = c.args.self.now in
    let new = c.run_places.new.self in
    let before = c.args.out.now.items in
    let after = c.run_places.new.out.items in
    on_ok_weaker {Q = Does (λ s. spec_run_scripts (script_places s.document) s) old new before after} c.run_places.result
    (λ does. does_scripts c.in_ok-places.places.items old new before after c.in_ok-places.ensures
    (subst (λ (all : List ℕ). Does (spec_run_scripts all) old new before after) c.as_slice.ensures.value does))
    c.run_places.ensures.does
