use Rattle.std.proofs.Common.{◌≡◌, Some, None, ap, ◌∙◌, sym}
use Rattle.std.specs.Prelude.{option_map}
use Rattle.std.proofs.lemmas.Result.{on_ok_weaker}
use Rattle.event_queue.specs.Timers.{timer_of}
use Rattle.acting_documents.specs.devices.Doings.{Does}
use Rattle.acting_documents.specs.Handling.{timer_effect}
use Rattle.acting_documents.specs.devices.Kept.{KeptDocument}
use Rattle.acting_documents.proofs.DoingLemmas.{does_no_timer, does_timer}
use Rattle.acting_documents.proofs.documents.ActingDocument.handle_timer.Goals as goal

pub returns-in_default-clause-does : goal.returns-in_default-clause-does
returns-in_default-clause-does c =
    let out = c.args.out.now.items in
    let none : option_map (λ timer. timer.function) (timer_of c.args.number c.args.self.now.lent.timers) ≡ None =
    ap (λ (k : KeptDocument). option_map (λ timer. timer.function) (timer_of c.args.number k.lent.timers)) (sym c.self.view_is)
    ∙ (sym (c.in_ok-function.ensures {u = tt}) ∙ c.in_default.is) in
    does_no_timer c.args.number c.args.self.now c.do_nothing.new.self out none (c.do_nothing.ensures.does out)

pub returns-clause-does : goal.returns-clause-does
returns-clause-does c =
    let old = c.args.self.now in
    let middle = c.settle_timer.new.self in
    let new = c.run_function.new.self in
    let before = c.args.out.now.items in
    let after = c.run_function.new.out.items in
    let is : option_map (λ timer. timer.function) (timer_of c.args.number old.lent.timers) ≡ Some c.in-Some.function =
    ap (λ (k : KeptDocument). option_map (λ timer. timer.function) (timer_of c.args.number k.lent.timers)) (sym c.self.view_is)
    ∙ (sym (c.in_ok-function.ensures {u = tt}) ∙ c.in-Some.is) in
    on_ok_weaker {Q = Does (timer_effect c.args.number) old new before after} c.run_function.result
    (λ does. does_timer c.args.number c.in-Some.function old middle new before after is c.settle_timer.ensures does)
    c.run_function.ensures.does
