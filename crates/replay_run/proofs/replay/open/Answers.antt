use Rattle.replay_run.proofs.OrderLaws.{opens_as, fails_as}
use Rattle.replay_run.proofs.replay.open.Goals as goal

pub returns-in-Ok-clause-opened : goal.returns-in-Ok-clause-opened
returns-in-Ok-clause-opened g c =
    opens_as c.args.port c.args.name.now c.in_ok-name.name
    (g.W.World.told c.args.world.now) (g.W.World.told c.open_port.new.self)
    (c.in_ok-name.ensures {u = tt}) c.in-Ok.ensures.asked c.in-Ok.ensures.readable
    c.in-Ok.ensures.counted.last c.in-Ok.ensures.bytes c.in-Ok.ensures.files c.in-Ok.ensures.other

pub returns-in-Err-clause-failed : goal.returns-in-Err-clause-failed
returns-in-Err-clause-failed g c = λ _.
    fails_as c.args.port c.args.name.now c.in_ok-name.name
    (g.W.World.told c.args.world.now) (g.W.World.told c.open_port.new.self)
    (c.in_ok-name.ensures {u = tt}) c.in-Err.ensures.asked c.in-Err.ensures.readable
    c.in-Err.ensures.counted.last c.in-Err.ensures.files c.in-Err.ensures.other
