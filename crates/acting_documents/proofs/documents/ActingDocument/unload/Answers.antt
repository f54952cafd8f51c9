use Rattle.std.proofs.lemmas.Result.{on_ok_weaker}
use Rattle.event_queue.specs.declared.events.Event.TheVariants as events
use Rattle.acting_documents.specs.Beginnings.{unload_effect, without_waiting}
use Rattle.acting_documents.specs.devices.Doings.{Does}
use Rattle.acting_documents.specs.Handling.{event_effect}
use Rattle.acting_documents.proofs.DoingLemmas.{does_changed}
use Rattle.acting_documents.proofs.documents.ActingDocument.unload.Goals as goal

pub returns-clause-does : goal.returns-clause-does
unfolding unload_effect
returns-clause-does c =
    let old = c.args.self.now in
    let new = c.handle.new.self in
    let before = c.args.out.now.items in
    let after = c.handle.new.out.items in
    on_ok_weaker {Q = Does unload_effect old new before after} c.handle.result
    (λ does. does_changed without_waiting (event_effect events.Unload) old c.drop_waiting.new.self new before after c.drop_waiting.ensures does)
    c.handle.ensures.does
