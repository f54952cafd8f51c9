use Rattle.std.proofs.Common.{◌∙◌, inr, refl}
use Rattle.std.proofs.lemmas.Result.{err_from_is_err_and}
use Rattle.bml_ports.specs.declared.outside.Port.TheVariants.{Stream, Notes}
use Rattle.replay_run.proofs.OrderLaws.{play_opened, stops_asking}
use Rattle.replay_run.specs.Outside.{outside}
use Rattle.replay_run.proofs.EndingLaws.{left_same}
use Rattle.replay_run.proofs.RunLaws.{bytes_same, ends_unopened}
use Rattle.replay_run.proofs.replay.replay.Goals as goal

pub returns-in_err-open-clause-ends : goal.returns-in_err-open-clause-ends
returns-in_err-open-clause-ends g c =
    let p = err_from_is_err_and c.from_residual.result c.from_residual.ensures.1 in
    rw (p.1, p.2) (λ read right stream notes kept files told.
    ends_unopened _ _ _ _ _ _ refl refl c.in_err-open.ensures.cause)

pub returns-in_err-open-2-clause-ends : goal.returns-in_err-open-2-clause-ends
returns-in_err-open-2-clause-ends g c =
    let p = err_from_is_err_and c.from_residual-in_err-open-2.result
    c.from_residual-in_err-open-2.ensures.1 in
    rw (p.1, p.2) (λ read right stream notes kept files told.
    ends_unopened _ _ _ _ _ _ refl refl c.in_err-open-2.ensures.cause)

pub returns-in_err-open-clause-order : goal.returns-in_err-open-clause-order
returns-in_err-open-clause-order g c =
    let p = err_from_is_err_and c.from_residual.result c.from_residual.ensures.1 in
    rw (p.1, p.2) (stops_asking _ Stream _ _ _ _ c.in_err-open.ensures.cause
    c.in_err-open.ensures.failed)

pub returns-in_err-open-2-clause-order : goal.returns-in_err-open-2-clause-order
returns-in_err-open-2-clause-order g c =
    let p = err_from_is_err_and c.from_residual-in_err-open-2.result
    c.from_residual-in_err-open-2.ensures.1 in
    rw (p.1, p.2) (inr (inr (
      g.W.World.told c.open.new.world,
      c.in_ok-open.ensures.opened,
      stops_asking _ Notes _ _ _ _ c.in_err-open-2.ensures.cause c.in_err-open-2.ensures.failed,
    )))

pub returns-clause-order : goal.returns-clause-order
returns-clause-order g c = inr (inr (
  g.W.World.told c.open.new.world,
  c.in_ok-open.ensures.opened,
  inr (inr (
    g.W.World.told c.open-2.new.world,
    c.in_ok-open-2.ensures.opened,
    (
      c.play_record.ensures.reads,
      play_opened c.play_record.result _ _ c.play_record.ensures.cause,
      c.play_record.ensures.unread,
    ),
  )),
))

pub returns-clause-ends : goal.returns-clause-ends
returns-clause-ends g c = λ read right stream notes kept files told.
    c.play_record.ensures.ends read right
    (outside (g.W.World.told c.args.world.now) (g.K.Keeper.told c.args.keeper.now)
    (g.S.Sink.told c.args.out.now)) refl refl stream notes kept
    (left_same _ _ c.in_ok-open-2.ensures.opens.other ∙ c.in_ok-open.ensures.bytes stream files.0)
    (c.in_ok-open-2.ensures.bytes notes
    (bytes_same (g.W.World.told c.args.world.now) (g.W.World.told c.open.new.world) _ notes
    c.in_ok-open.ensures.opens.files files.1)) told

pub returns-clause-reason : goal.returns-clause-reason
returns-clause-reason g c = λ stream notes kept files told.
    c.play_record.ensures.reason
    (outside (g.W.World.told c.args.world.now) (g.K.Keeper.told c.args.keeper.now)
    (g.S.Sink.told c.args.out.now)) stream notes kept
    (left_same _ _ c.in_ok-open-2.ensures.opens.other ∙ c.in_ok-open.ensures.bytes stream files.0)
    (c.in_ok-open-2.ensures.bytes notes
    (bytes_same (g.W.World.told c.args.world.now) (g.W.World.told c.open.new.world) _ notes
    c.in_ok-open.ensures.opens.files files.1)) told
