use Rattle.page.specs.Inputs.{due_step}
use Rattle.receiver_core.specs.Broadcasts.{BroadcastState}
use Rattle.receiver_core.specs.Turns.{due_turn, of_page}
use Rattle.receiver_core.proofs.BroadcastLaws.{made_with_turn, on_ok, page_made, with_page}
use Rattle.receiver_core.proofs.broadcast.Broadcast.due_turn.Goals as goal

pub returns-clause-makes : goal.returns-clause-makes
unfolding due_turn
returns-clause-makes c =
    let inside = c.self.inside in
    let old : BroadcastState = record { services = inside.services; modules = inside.modules; page = inside.page } in
    let step = due_step c.args.moment in
    let before = c.args.out.now.items in
    let between = c.post_due.new.out.items in
    rw (← c.self.view_is)
    (on_ok c.page_turn.result
    (made_with_turn (λ s. of_page s (step s.page)) old (with_page old c.post_due.new.self)
    c.page_turn.new.self before between c.page_turn.new.out.items
    (page_made step old c.post_due.new.self before between c.in_ok-post_due.ensures.moved))
    c.page_turn.ensures.makes)
