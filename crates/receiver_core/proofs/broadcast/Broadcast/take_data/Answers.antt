use Rattle.receiver_core.specs.Turns.{section_messages, step_of_modules, with_handled}
use Rattle.receiver_core.proofs.BroadcastLaws.{made_with_messages, on_ok}
use Rattle.receiver_core.proofs.broadcast.Broadcast.take_data.Goals as goal

pub returns-clause-makes : goal.returns-clause-makes
returns-clause-makes c =
    let component = c.args.component in
    let section = c.args.section.now in
    on_ok c.take_messages.result
    (made_with_messages component (section_messages section) (λ s. step_of_modules component section (with_handled c.args.pid section s))
    c.args.self.now c.take_changes.new.self c.take_messages.new.self c.args.out.now.items c.take_changes.new.out.items c.take_messages.new.out.items
    c.in_ok-take_changes.ensures.makes)
    c.take_messages.ensures.makes
