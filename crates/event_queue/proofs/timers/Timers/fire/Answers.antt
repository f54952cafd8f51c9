use Rattle.std.proofs.Common.{◌<◌, ◌^◌, Some, sym, ap, ◌∙◌, arith}
use Rattle.std.specs.Prelude.{◌≤◌, option_map, position, slice_index_or}
use Rattle.event_queue.specs.Timers.{after_firing, first_due, is_due}
use Rattle.event_queue.specs.devices.KeptTimers.{seen}
use Rattle.event_queue.proofs.KeptLemmas.{blank, changed-at, due-moment, first, none}
use Rattle.event_queue.proofs.timers.Timers.fire.Goals as goal

pub fire_at-requires-clause-moment : goal.fire_at-requires-clause-moment
fire_at-requires-clause-moment c d =
    let f = first (is_due c.args.moment) c.self.inside.timers.items c.in-Some.place d
    (ap (position (λ timer. is_due c.args.moment (seen timer))) (sym c.as_slice.ensures.value) ∙ (sym c.due_place.ensures ∙ c.in-Some.is)) in
    let due : (slice_index_or c.self.inside.timers.items c.in-Some.place d).moment ≤ c.args.moment = due-moment c.args.moment (seen (slice_index_or c.self.inside.timers.items c.in-Some.place d)) f.passes in
    let least : c.args.moment < 2 ^ 62 = c.requires.moment in
    omega arith

pub returns-in-None-clause-number : goal.returns-in-None-clause-number
unfolding first_due
returns-in-None-clause-number c =
    let n = none (is_due c.args.moment) c.self.inside.timers.items blank
    (ap (position (λ timer. is_due c.args.moment (seen timer))) (sym c.as_slice.ensures.value) ∙ (sym c.due_place.ensures ∙ c.in-None.is)) in
    rw (← c.self.view_is) (sym (ap (option_map (λ timer. timer.number)) n.found))

pub returns-in-Some-clause-number : goal.returns-in-Some-clause-number
unfolding first_due
returns-in-Some-clause-number c =
    let f = first (is_due c.args.moment) c.self.inside.timers.items c.in-Some.place blank
    (ap (position (λ timer. is_due c.args.moment (seen timer))) (sym c.as_slice.ensures.value) ∙ (sym c.due_place.ensures ∙ c.in-Some.is)) in
    rw (← c.self.view_is)
    (ap Some (c.fire_at.ensures.number blank) ∙ sym (ap (option_map (λ timer. timer.number)) f.found))

pub returns-in-Some-clause-fired : goal.returns-in-Some-clause-fired
returns-in-Some-clause-fired c h =
    let f = first (is_due c.args.moment) c.self.inside.timers.items c.in-Some.place blank
    (ap (position (λ timer. is_due c.args.moment (seen timer))) (sym c.as_slice.ensures.value) ∙ (sym c.due_place.ensures ∙ c.in-Some.is)) in
    rw (← c.self.view_is)
    (ap (λ timers. record { timers = timers; next = c.self.inside.next })
    (changed-at (is_due c.args.moment) after_firing c.self.inside.timers.items c.fire_at.new.timers.items c.in-Some.place f c.fire_at.ensures.changed))
