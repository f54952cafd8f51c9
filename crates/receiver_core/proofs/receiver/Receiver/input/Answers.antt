use Rattle.receiver_core.proofs.ReceivingLaws.{answers, stays_shown}
use Rattle.receiver_core.proofs.receiver.Receiver.input.Goals as goal

pub returns-in-Ok-clause-answers : goal.returns-in-Ok-clause-answers
returns-in-Ok-clause-answers c =
    let inside = c.self.inside in
    rw (← c.self.view_is)
    (answers c.args.input inside.demultiplexer inside.broadcast c.input.new.self inside.spent
    inside.spent c.args.out.now.items c.input.new.out.items c.if-self.false
    c.in-Ok.ensures.makes)

pub returns-in-Ok-clause-stays : goal.returns-in-Ok-clause-stays
returns-in-Ok-clause-stays c =
    let inside = c.self.inside in
    rw (← c.self.view_is)
    (stays_shown c.args.input inside.demultiplexer inside.broadcast c.input.new.self inside.spent
    inside.spent c.args.out.now.items c.input.new.out.items c.if-self.false
    c.in-Ok.ensures.makes)
