use Rattle.receiver_core.proofs.BroadcastLaws.{stands_first}
use Rattle.receiver_core.proofs.broadcast.Broadcast.new.Goals as goal

pub returns-clause-stands : goal.returns-clause-stands
returns-clause-stands c =
    stands_first c.law_of_component_map.ensures.apart c.law_of_posted_changes.ensures.maps c.new-services.result c.new-modules.result c.set_components.new.self c.in_ok-page.page c.args.selection c.args.area
    c.new-services.ensures.selection c.new-services.ensures.stands c.new-modules.ensures.stands c.in_ok-set_components.ensures.stands c.in_ok-page.ensures.stands
