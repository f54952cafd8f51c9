use Rattle.std.proofs.Common.{map, [], sym, ap, ◌∙◌}
use Rattle.std.specs.Prelude.{is_some, position}
use Rattle.event_queue.specs.Timers.{has_number, timer_of}
use Rattle.event_queue.specs.devices.KeptTimers.{seen}
use Rattle.event_queue.proofs.KeptLemmas.{blank, first, kept-without, none, removed-at}
use Rattle.event_queue.proofs.timers.Timers.clear.Goals as goal

pub returns-in-None-clause-there : goal.returns-in-None-clause-there
unfolding timer_of
returns-in-None-clause-there c =
    let n = none (has_number c.args.number) c.self.inside.timers.items blank
    (ap (position (λ timer. has_number c.args.number (seen timer))) (sym c.as_slice.ensures.value) ∙ (sym c.place_of.ensures ∙ c.in-None.is)) in
    rw (← c.self.view_is) (sym (ap is_some n.found))

pub invariant_of-self : goal.invariant_of-self
invariant_of-self c =
    rw c.remove_at.ensures (kept-without c.self.inside.timers.items c.self.inside.next c.in-Some.place c.self.invariant)

pub returns-in-None-clause-timers : goal.returns-in-None-clause-timers
returns-in-None-clause-timers c =
    let n = none (has_number c.args.number) c.self.inside.timers.items blank
    (ap (position (λ timer. has_number c.args.number (seen timer))) (sym c.as_slice.ensures.value) ∙ (sym c.place_of.ensures ∙ c.in-None.is)) in
    rw (← c.self.view_is) (ap (λ timers. record { timers = timers; next = c.self.inside.next }) (sym (n.replaced_is (λ timer. []))))

pub returns-in-Some-clause-there : goal.returns-in-Some-clause-there
unfolding timer_of
returns-in-Some-clause-there c =
    let f = first (has_number c.args.number) c.self.inside.timers.items c.in-Some.place blank
    (ap (position (λ timer. has_number c.args.number (seen timer))) (sym c.as_slice.ensures.value) ∙ (sym c.place_of.ensures ∙ c.in-Some.is)) in
    rw (← c.self.view_is) (sym (ap is_some f.found))

pub returns-in-Some-clause-timers : goal.returns-in-Some-clause-timers
returns-in-Some-clause-timers c =
    let f = first (has_number c.args.number) c.self.inside.timers.items c.in-Some.place blank
    (ap (position (λ timer. has_number c.args.number (seen timer))) (sym c.as_slice.ensures.value) ∙ (sym c.place_of.ensures ∙ c.in-Some.is)) in
    rw (← c.self.view_is)
    (ap (λ timers. record { timers = timers; next = c.self.inside.next })
    (ap (map seen) c.remove_at.ensures ∙ removed-at (has_number c.args.number) c.self.inside.timers.items c.in-Some.place f))
