use Rattle.std.proofs.Common.{◌∙◌}
use Rattle.receiver_core.specs.Broadcasts.{BroadcastState}
use Rattle.receiver_core.proofs.BroadcastLaws.{messages_taken, on_ok}
use Rattle.receiver_core.proofs.broadcast.Broadcast.take_messages.Goals as goal

pub returns-clause-makes : goal.returns-clause-makes
returns-clause-makes c =
    let inside = c.self.inside in
    let old : BroadcastState = record { services = inside.services; modules = inside.modules; page = inside.page } in
    rw (← c.self.view_is)
    (on_ok c.post_messages.result
    (messages_taken c.args.component c.args.section.now c.as_slice.result.now old c.post_messages.new.page c.args.out.now.items c.post_messages.new.out.items
    (c.as_slice.ensures.value ∙ c.in_ok-messages.ensures)) c.post_messages.ensures.posted)
