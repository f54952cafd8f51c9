use Rattle.std.proofs.Common.{subst}
use Rattle.std.proofs.lemmas.Result.{err_from_is_err_and}
use Rattle.replay_run.specs.Outside.{account, outside}
use Rattle.replay_run.specs.Replaying.{PlayEnds}
use Rattle.replay_run.specs.Status.{outcome_of}
use Rattle.replay_run.proofs.PuttingLaws.{begun_whole}
use Rattle.replay_run.proofs.replay.play_from.Goals as goal

pub returns-clause-ends : goal.returns-clause-ends
returns-clause-ends g c =
    subst (λ area. PlayEnds c.args.selection area
    (outside (g.W.World.told c.args.world.now) (g.K.Keeper.told c.args.keeper.now)
    (g.S.Sink.told c.args.out.now))
    (outside (g.W.World.told c.play_items-played.new.world)
    (g.K.Keeper.told c.play_items-played.new.keeper) (g.S.Sink.told c.play_items-played.new.out))
    (outcome_of c.play_items-played.result))
    c.in_ok-player.ensures.kept c.play_items-played.ensures.ends

pub returns-in_err-player-clause-ends : goal.returns-in_err-player-clause-ends
returns-in_err-player-clause-ends g c =
    let p = err_from_is_err_and c.from_residual.result c.from_residual.ensures.1 in
    rw (p.1, p.2) (λ read right before begun stream notes l n.
    begun_whole _ (account stream notes before (outside (g.W.World.told c.args.world.now)
    (g.K.Keeper.told c.args.keeper.now) (g.S.Sink.told c.args.out.now))) begun)
