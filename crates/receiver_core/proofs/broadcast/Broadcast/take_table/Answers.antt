use Rattle.std.proofs.Common.{◌∙◌}
use Rattle.receiver_core.specs.Broadcasts.{BroadcastState}
use Rattle.receiver_core.proofs.BroadcastLaws.{on_ok, table_taken}
use Rattle.receiver_core.proofs.broadcast.Broadcast.take_table.Goals as goal

pub returns-clause-makes : goal.returns-clause-makes
returns-clause-makes c =
    let inside = c.self.inside in
    let old : BroadcastState = record { services = inside.services; modules = inside.modules; page = inside.page } in
    let fed = c.in_ok-feed.ensures in
    let set = c.in_ok-gone.ensures in
    rw (← c.self.view_is)
    (on_ok c.post_gone.result
    (table_taken c.law_of_component_map.ensures.apart c.law_of_posted_changes.ensures.maps old c.feed.new.self c.set_components.new.self c.post_gone.new.page c.as_slice.result.now c.args.pid c.args.section.now
    c.args.out.now.items c.post_gone.new.out.items fed.selection fed.stands set.stands (λ modules stands. c.as_slice.ensures.value ∙ set.gone modules stands)) c.post_gone.ensures.posted)
