use Rattle.std.proofs.Common.{◌≡◌, ◌<◌, ◌+◌, ◌∙◌, ℕ, max, Option, Some, None, IfSome, ap, arith, inl, inr, refl, subst, sym}
use Rattle.receiver_core.specs.Broadcasts.{BroadcastState}
use Rattle.receiver_core.proofs.TimeLaws.{next_in, turned, waited}
use Rattle.receiver_core.proofs.broadcast.Broadcast.pass_time.Goals.{in_default-via-in-Some+else-due-end, in_default-via-in_default}
use Rattle.receiver_core.proofs.broadcast.Broadcast.pass_time.Goals as goal

pub returns-in_ok-due_turn-in-Some-clause-steps : goal.returns-in_ok-due_turn-in-Some-clause-steps
returns-in_ok-due_turn-in-Some-clause-steps c =
    let old = c.args.self.now in
    let due = c.in-Some.due in
    let moment = c.max-moment.result in
    let clock : c.clock-now.result ≡ old.page.clock = c.clock-now.ensures.clock ∙ ap (λ (b : BroadcastState). b.page.clock) c.self.view_is in
    let first : moment ≡ max due (old.page.clock + 1) = omega (arith, c.max-moment.ensures) in
    inr
    (turned _ moment due old c.due_turn.new.self c.args.out.now.items c.due_turn.new.out.items
    (ap next_in (sym c.self.view_is) ∙ sym c.next_due.ensures ∙ c.in-Some.is) first (omega (arith, c.if-due-end.true))
    c.in_ok-due_turn-in-Some.ensures.makes)

-- the next timer that is due is due later, if there is one
later : (end : ℕ) (found next : Option ℕ) → found ≡ next → IfSome found (λ due. end < due) → IfSome next (λ due. end < due)
later end found next same after = subst (λ (o : Option ℕ). IfSome o (λ due. end < due)) same after

pub returns-in_default-clause-steps : goal.returns-in_default-clause-steps
returns-in_default-clause-steps c =
    let inside = c.self.inside in
    let old : BroadcastState = record { services = inside.services; modules = inside.modules; page = inside.page } in
    let end = inside.page.clock + c.args.left in
    let clock : c.clock-now.result + c.from.result ≡ end = omega arith in
    let after : IfSome c.next_due.result (λ due. end < due) =
    elim c.in_default.branch [
      | in_default-via-in-Some+else-due-end w ↦ later end (Some w.in-Some.due) c.next_due.result (sym w.in-Some.is) (omega (arith, w.if-due-end.false))
      | in_default-via-in_default w ↦ later end None c.next_due.result (sym w.in_default.is) tt
    ] in
    rw (← c.self.view_is)
    (inl (
      refl,
      waited c.args.left old c.pass_time.new.self c.args.out.now.items
          (c.pass_time.ensures ∙ ap (λ (n : ℕ). record inside.page { clock = n }) clock)
          (later end c.next_due.result (next_in old) c.next_due.ensures after),
    ))
