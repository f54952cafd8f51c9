use Rattle.std.proofs.Common.{subst, sym}
use Rattle.receiver_core.specs.Receiving.{IsIdle}
use Rattle.receiver_core.proofs.ReceivingLaws.{passes_time}
use Rattle.receiver_core.proofs.receiver.Receiver.clock_step.Goals as goal

pub returns-in-Ok-clause-steps : goal.returns-in-Ok-clause-steps
returns-in-Ok-clause-steps c =
    let inside = c.self.inside in
    rw (← c.self.view_is)
    (passes_time c.args.left c.in-Ok.rest inside.demultiplexer inside.broadcast c.pass_time.new.self
    inside.spent inside.spent c.args.out.now.items c.pass_time.new.out.items c.if-self.false
    (subst IsIdle (sym c.self.view_is) c.requires.idle) c.in-Ok.ensures.steps)
