use Rattle.std.proofs.Common.{◌<◌, length, refl, sym, ap, ◌∙◌, arith}
use Rattle.event_queue.specs.Timers.{lesser}
use Rattle.event_queue.proofs.KeptLemmas.{none-left, one-more}
use Rattle.event_queue.proofs.timers.least_of.Goals as goal
use Rattle.event_queue.proofs.timers.least_of.Goals.{then-is_firing, else-is_firing}

pub timers-init : goal.timers-init
timers-init c = (omega arith, none-left c.args.timers.now)

pub timers-preserved : goal.timers-preserved
timers-preserved c =
    let h : c.timers.behind < length c.args.timers.now = omega arith in
    let more = one-more c.args.timers.now c.timers.behind c.index-timers-timers.result h c.index-timers-timers.is in (
      omega arith,
      elim c.if-is_firing.branch [
        | then-is_firing w ↦ w.least-is ∙ (w.lesser.ensures ∙ (ap (lesser c.index-timers-timers.result.moment) c.timers.invariant.1 ∙ sym (more ∙ rw (sym c.is_firing.ensures ∙ w.if-is_firing.true) refl)))
        | else-is_firing w ↦ w.least-is ∙ (c.timers.invariant.1 ∙ sym (more ∙ rw (sym c.is_firing.ensures ∙ w.if-is_firing.false) refl))
      ],
    )
