use Rattle.std.proofs.Common.{map, sym, ap, ◌∙◌}
use Rattle.std.specs.Prelude.{is_some, position}
use Rattle.event_queue.specs.Timers.{has_number, after_settling, left_after_settling, timer_of}
use Rattle.event_queue.specs.devices.KeptTimers.{seen}
use Rattle.event_queue.proofs.KeptLemmas.{blank, ends-at, first, goes-on-at, kept-changed, kept-without, none}
use Rattle.event_queue.proofs.timers.Timers.settle.Goals as goal

pub returns-in-None-clause-there : goal.returns-in-None-clause-there
unfolding timer_of
returns-in-None-clause-there c =
    let n = none (has_number c.args.number) c.self.inside.timers.items blank
    (ap (position (λ timer. has_number c.args.number (seen timer))) (sym c.as_slice.ensures.value) ∙ (sym c.place_of.ensures ∙ c.in-None.is)) in
    rw (← c.self.view_is) (sym (ap is_some n.found))

pub invariant_of-self : goal.invariant_of-self
invariant_of-self c =
    let f = first (has_number c.args.number) c.self.inside.timers.items c.in-Some.place blank
    (ap (position (λ timer. has_number c.args.number (seen timer))) (sym c.as_slice.ensures.value) ∙ (sym c.place_of.ensures ∙ c.in-Some.is)) in
    rw c.remove_at.ensures
    (kept-without c.settle_at.new.timers.items c.self.inside.next c.in-Some.place
    (kept-changed after_settling c.self.inside.timers.items c.settle_at.new.timers.items c.self.inside.next c.in-Some.place f.below
    c.settle_at.ensures.changed c.self.invariant))

pub invariant_of-self-else-not-settle_at : goal.invariant_of-self-else-not-settle_at
invariant_of-self-else-not-settle_at c =
    let f = first (has_number c.args.number) c.self.inside.timers.items c.in-Some.place blank
    (ap (position (λ timer. has_number c.args.number (seen timer))) (sym c.as_slice.ensures.value) ∙ (sym c.place_of.ensures ∙ c.in-Some.is)) in
    kept-changed after_settling c.self.inside.timers.items c.settle_at.new.timers.items c.self.inside.next c.in-Some.place f.below
    c.settle_at.ensures.changed c.self.invariant

pub returns-in-None-clause-timers : goal.returns-in-None-clause-timers
returns-in-None-clause-timers c =
    let n = none (has_number c.args.number) c.self.inside.timers.items blank
    (ap (position (λ timer. has_number c.args.number (seen timer))) (sym c.as_slice.ensures.value) ∙ (sym c.place_of.ensures ∙ c.in-None.is)) in
    rw (← c.self.view_is) (ap (λ timers. record { timers = timers; next = c.self.inside.next }) (sym (n.replaced_is left_after_settling)))

pub returns-then-not-settle_at-clause-there : goal.returns-then-not-settle_at-clause-there
unfolding timer_of
returns-then-not-settle_at-clause-there c =
    let f = first (has_number c.args.number) c.self.inside.timers.items c.in-Some.place blank
    (ap (position (λ timer. has_number c.args.number (seen timer))) (sym c.as_slice.ensures.value) ∙ (sym c.place_of.ensures ∙ c.in-Some.is)) in
    rw (← c.self.view_is) (sym (ap is_some f.found))

pub returns-else-not-settle_at-clause-there : goal.returns-else-not-settle_at-clause-there
unfolding timer_of
returns-else-not-settle_at-clause-there c =
    let f = first (has_number c.args.number) c.self.inside.timers.items c.in-Some.place blank
    (ap (position (λ timer. has_number c.args.number (seen timer))) (sym c.as_slice.ensures.value) ∙ (sym c.place_of.ensures ∙ c.in-Some.is)) in
    rw (← c.self.view_is) (sym (ap is_some f.found))

pub returns-then-not-settle_at-clause-timers : goal.returns-then-not-settle_at-clause-timers
returns-then-not-settle_at-clause-timers c =
    let f = first (has_number c.args.number) c.self.inside.timers.items c.in-Some.place blank
    (ap (position (λ timer. has_number c.args.number (seen timer))) (sym c.as_slice.ensures.value) ∙ (sym c.place_of.ensures ∙ c.in-Some.is)) in
    rw (← c.self.view_is)
    (ap (λ timers. record { timers = timers; next = c.self.inside.next })
    (ap (map seen) c.remove_at.ensures
    ∙ ends-at (has_number c.args.number) c.self.inside.timers.items c.settle_at.new.timers.items c.in-Some.place f
    c.settle_at.ensures.changed (sym (c.settle_at.ensures.goes_on blank) ∙ c.if-not-settle_at.true)))

pub returns-else-not-settle_at-clause-timers : goal.returns-else-not-settle_at-clause-timers
returns-else-not-settle_at-clause-timers c =
    let f = first (has_number c.args.number) c.self.inside.timers.items c.in-Some.place blank
    (ap (position (λ timer. has_number c.args.number (seen timer))) (sym c.as_slice.ensures.value) ∙ (sym c.place_of.ensures ∙ c.in-Some.is)) in
    rw (← c.self.view_is)
    (ap (λ timers. record { timers = timers; next = c.self.inside.next })
    (goes-on-at (has_number c.args.number) c.self.inside.timers.items c.settle_at.new.timers.items c.in-Some.place f
    c.settle_at.ensures.changed (sym (c.settle_at.ensures.goes_on blank) ∙ c.if-not-settle_at.false)))
