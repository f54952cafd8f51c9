use Rattle.receiver_core.specs.Broadcasts.{BroadcastState}
use Rattle.receiver_core.proofs.BroadcastLaws.{on_ok, turn_made}
use Rattle.receiver_core.proofs.broadcast.Broadcast.page_turn.Goals as goal

pub returns-clause-makes : goal.returns-clause-makes
returns-clause-makes c =
    let inside = c.self.inside in
    let old : BroadcastState = record { services = inside.services; modules = inside.modules; page = inside.page } in
    rw (← c.self.view_is)
    (on_ok c.turn.result
    (turn_made old c.turn.new.modules c.turn.new.self c.args.out.now.items c.turn.new.out.items)
    c.turn.ensures.turned)
