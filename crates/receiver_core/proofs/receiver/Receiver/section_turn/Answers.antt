use Rattle.std.proofs.Common.{◌≡◌, ◌∙◌, ℕ, sym, subst, inl, inr}
use Rattle.psi_tables.specs.Service.{ServicesState, wants}
use Rattle.section_demultiplexer.specs.Demultiplexing.{DemultiplexerState}
use Rattle.receiver_core.specs.Broadcasts.{HasMade}
use Rattle.receiver_core.specs.Turns.{turn}
use Rattle.receiver_core.proofs.ReceivingLaws.{IsFollowed, less_behind, makes_turn, no_turn, passes_damaged, wanted_behind}
use Rattle.receiver_core.proofs.receiver.Receiver.section_turn.Goals as goal

pub invariant_of-self-in-Ok : goal.invariant_of-self-in-Ok
invariant_of-self-in-Ok c = wanted_behind c.next.follows.lender-at-none c.follow.new.self c.services.result.now c.turn-turned.new.self.services c.follow.ensures.followed c.services.ensures

pub invariant_of-self-in-Err : goal.invariant_of-self-in-Err
invariant_of-self-in-Err c = wanted_behind c.next.follows.lender-at-none c.follow.new.self c.services.result.now c.turn-turned.new.self.services c.follow.ensures.followed c.services.ensures

pub returns-in_default-clause-over : goal.returns-in_default-clause-over
returns-in_default-clause-over c = λ _.
    let inside = c.self.inside in
    let over = rw c.in_default.is at c.next.follows.holds-at-none in
    rw (← c.self.view_is) (no_turn inside.demultiplexer c.next.follows.lender-at-none inside.broadcast inside.spent c.args.out.now.items over)

pub returns-then-not-is_intact-clause-handled : goal.returns-then-not-is_intact-clause-handled
returns-then-not-is_intact-clause-handled c = λ _.
    let inside = c.self.inside in
    let between = c.next.follows.lender-at-none in
    let gives = rw c.in-Some.is at c.next.follows.holds-at-none in
    rw (← c.self.view_is)
    (inl (passes_damaged inside.demultiplexer between inside.broadcast inside.spent c.in-Some.section.now c.args.out.now.items gives
    (sym c.is_intact.ensures.test ∙ c.if-not-is_intact.true)))

-- the sections of the PIDs that are wanted behind the turn stay
is_followed_by : (between new : DemultiplexerState) (lent x : ServicesState) → lent ≡ x → IsFollowed between new lent → IsFollowed between new x
is_followed_by between new lent x same is = subst (λ (y : ServicesState). IsFollowed between new y) same is

pub returns-in-Ok-clause-handled : goal.returns-in-Ok-clause-handled
returns-in-Ok-clause-handled c = λ _.
    let inside = c.self.inside in
    let between = c.next.follows.lender-at-none in
    let section = c.in-Some.section.now in
    let broadcast = c.turn-turned.new.self in
    let gives = rw c.in-Some.is at c.next.follows.holds-at-none in
    let turned = c.in-Ok.ensures.makes in
    let follow = c.follow.ensures in
    rw (← c.self.view_is)
    (inr (makes_turn c.law_of_same_lists.ensures inside.demultiplexer between c.follow.new.self inside.broadcast broadcast inside.spent inside.spent section turned.text
    c.args.out.now.items c.turn-turned.new.out.items gives (sym c.is_intact.ensures.test ∙ c.if-not-is_intact.false)
    (is_followed_by between c.follow.new.self c.services.result.now broadcast.services c.services.ensures (record { pid = follow.pid; waiting = follow.waiting; stands = follow.stands }))
    (λ state stands. subst (λ (pid : ℕ). HasMade broadcast turned.text (turn pid section state)) c.pid-pid.ensures (turned.makes state stands))
    (c.self.invariant inside.demultiplexer.pid gives.followed) c.if-self.false turned.printed))

pub returns-in-Ok-clause-fewer : goal.returns-in-Ok-clause-fewer
returns-in-Ok-clause-fewer c = λ _.
    let inside = c.self.inside in
    let between = c.next.follows.lender-at-none in
    let section = c.in-Some.section.now in
    let gives = rw c.in-Some.is at c.next.follows.holds-at-none in
    rw (← c.self.view_is)
    (less_behind section inside.demultiplexer.waiting between.waiting c.follow.new.self.waiting (wants c.services.result.now between.pid) gives.next c.follow.ensures.waiting)
