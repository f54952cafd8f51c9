use Rattle.std.proofs.Common.{refl}
use Rattle.replay_run.specs.Outside.{account, outside}
use Rattle.replay_run.proofs.OrderLaws.{play_reads}
use Rattle.replay_run.proofs.RunLaws.{begun_loaded, ends_loaded, reason_loaded}
use Rattle.replay_run.proofs.replay.play_record.Goals as goal

pub returns-clause-ends : goal.returns-clause-ends
returns-clause-ends g c = λ read right before sink keeper stream notes kept l n told.
    ends_loaded _ read c.args.selection c.in_ok-area.area kept stream notes
    (account stream notes before (outside (g.W.World.told c.play_from.new.world)
    (g.K.Keeper.told c.play_from.new.keeper) (g.S.Sink.told c.play_from.new.out)))
    (c.in_ok-area.ensures.loaded kept told) (c.in_ok-area.ensures.size kept told)
    (c.play_from.ensures.ends read right before
    (begun_loaded before (g.W.World.told c.args.world.now) (g.K.Keeper.told c.args.keeper.now)
    (g.K.Keeper.told c.load_area.new.keeper) (g.S.Sink.told c.args.out.now) sink keeper
    c.in_ok-area.ensures.keeps) stream notes l n)

pub returns-clause-reason : goal.returns-clause-reason
returns-clause-reason g c = λ before stream notes kept l n told.
    reason_loaded _ (account stream notes before (outside (g.W.World.told c.play_from.new.world)
    (g.K.Keeper.told c.play_from.new.keeper) (g.S.Sink.told c.play_from.new.out))) kept
    (c.in_ok-area.ensures.size kept told)
    (c.play_from.ensures.tells
    (outside (g.W.World.told c.args.world.now) (g.K.Keeper.told c.args.keeper.now)
    (g.S.Sink.told c.args.out.now))
    (begun_loaded (outside (g.W.World.told c.args.world.now) (g.K.Keeper.told c.args.keeper.now)
    (g.S.Sink.told c.args.out.now)) (g.W.World.told c.args.world.now)
    (g.K.Keeper.told c.args.keeper.now) (g.K.Keeper.told c.load_area.new.keeper)
    (g.S.Sink.told c.args.out.now) refl refl c.in_ok-area.ensures.keeps) stream notes l n)

pub returns-clause-unread : goal.returns-clause-unread
returns-clause-unread g c = play_reads c.play_from.result _ _ _ _ c.play_from.ensures.cause
