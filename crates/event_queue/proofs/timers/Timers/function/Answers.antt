use Rattle.std.proofs.Common.{◌≡◌, true, List, sym, ap, ◌∙◌, get_or}
use Rattle.std.specs.Prelude.{is_some, option_map, position}
use Rattle.std.proofs.lemmas.List.Elements.{All-get_or}
use Rattle.event_queue.specs.Timers.{has_number, timer_of}
use Rattle.event_queue.specs.devices.KeptTimers.{seen}
use Rattle.event_queue.specs.declared.timers.KeptTimer.{KeptTimer}
use Rattle.event_queue.proofs.KeptLemmas.{blank, called, first, none}
use Rattle.event_queue.proofs.timers.Timers.function.Goals as goal

pub returns-in-None : goal.returns-in-None
unfolding timer_of
returns-in-None c =
    let n = none (has_number c.args.number) c.self.inside.timers.items blank
    (ap (position (λ timer. has_number c.args.number (seen timer))) (sym c.as_slice.ensures.value) ∙ (sym c.place_of.ensures ∙ c.in-None.is)) in
    rw (← c.self.view_is) n.found

pub returns-in-Some : goal.returns-in-Some
unfolding timer_of
returns-in-Some c =
    let f = first (has_number c.args.number) c.self.inside.timers.items c.in-Some.place c.index-as_slice-place.result
    (ap (position (λ timer. has_number c.args.number (seen timer))) (sym c.as_slice.ensures.value) ∙ (sym c.place_of.ensures ∙ c.in-Some.is)) in
    rw (← c.self.view_is)
    (called _ c.as_ref.result _ _
    (c.as_ref.ensures.value
    ∙ ap (λ (xs : List KeptTimer). (get_or xs c.in-Some.place c.index-as_slice-place.result).function) c.as_slice-in-Some.ensures.value)
    (All-get_or (λ (timer : KeptTimer). is_some timer.function ≡ true) c.self.inside.timers.items c.in-Some.place c.index-as_slice-place.result f.below c.self.invariant.named)
    (ap (option_map (λ timer. timer.function)) f.found))
