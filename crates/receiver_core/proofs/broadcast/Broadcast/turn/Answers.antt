use Rattle.receiver_core.specs.Turns.{step_of_section, turn}
use Rattle.receiver_core.proofs.BroadcastLaws.{made_with_turn, on_ok}
use Rattle.receiver_core.proofs.broadcast.Broadcast.turn.Goals as goal

pub returns-clause-makes : goal.returns-clause-makes
unfolding turn
returns-clause-makes c =
    on_ok c.page_turn.result
    (made_with_turn (step_of_section c.args.pid c.args.section.now) c.args.self.now c.take.new.self c.page_turn.new.self c.args.out.now.items c.take.new.out.items c.page_turn.new.out.items c.in_ok-take.ensures.makes)
    c.page_turn.ensures.makes
