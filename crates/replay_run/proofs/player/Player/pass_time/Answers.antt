use Rattle.std.proofs.Common.{◌≡◌, ◌+◌, ◌-◌, ◌∙◌, ap, arith, refl, subst}
use Rattle.std.proofs.lemmas.Result.{err_from_is_err_and}
use Rattle.receiver_core.specs.Receiving.{ReceiverState}
use Rattle.replay_run.specs.Midway.{Passes, moment}
use Rattle.replay_run.specs.Outside.{outside}
use Rattle.replay_run.proofs.PlayLaws.{same_count}
use Rattle.replay_run.proofs.ProgressLaws.{midway_untimed}
use Rattle.replay_run.proofs.PuttingLaws.{later_more, later_none}
use Rattle.replay_run.proofs.StepLaws.{clock_step, joined_step, midway_step, stops_step}
use Rattle.replay_run.proofs.StoppingLaws.{first_ticked, stops_within}
use Rattle.replay_run.proofs.player.Player.pass_time.Goals as goal

pub steps-init : goal.steps-init
steps-init g c = record {
  passed = (
    0,
    omega arith,
    λ world replay inputs ahead m. midway_untimed replay _ inputs ahead
        (c.law_of_passing_time.ensures.none replay.read replay.selection replay.area _ inputs) m,
  );
  idle = c.requires.idle;
  area = c.requires.area;
  bytes = refl;
  packets = refl;
  cutter = refl;
  clock = refl;
  later = later_none _;
}

pub returns-in_err-left-clause-stopped : goal.returns-in_err-left-clause-stopped
returns-in_err-left-clause-stopped g c =
    let before = c.steps.invariant in
    let p = err_from_is_err_and c.from_residual.result c.from_residual.ensures.1 in
    rw (p.1, p.2) (λ world replay inputs ahead m.
    stops_within replay _
    (outside world (g.K.Keeper.told c.steps.keeper) (g.S.Sink.told c.steps.out)) _ _ ahead
    (first_ticked inputs before.passed.0 c.args.count (omega (arith, before.passed.1)))
    refl refl (rw before.bytes c.requires.within) (before.passed.2 world replay inputs ahead m))

pub steps-preserved : goal.steps-preserved
steps-preserved g c =
    let before = c.steps.invariant in
    let step = c.in_ok-left.ensures in
    let put = c.in_ok-put_piece.ensures in
    let time = before.passed.0 + (c.steps.left - c.in_ok-left.left) in
    record {
      passed = (
        time,
        omega (arith, before.passed.1, step.fewer),
        λ world replay inputs ahead m.
            midway_step replay _ _ _ _ ahead _ _
            (joined_step replay _ _ _ inputs before.passed.0 (c.steps.left - c.in_ok-left.left)
            (c.law_of_passing_time.ensures.joined replay.read replay.selection replay.area _ inputs
            before.passed.0 (c.steps.left - c.in_ok-left.left))
            (clock_step replay _ _ _ _ _ c.steps.left c.in_ok-left.left
            (c.law_of_standing_areas.ensures.time _ _ _ _ _) c.clear.ensures.items step.steps))
            before.area (same_count inputs before.passed.0 time) put.puts
            (record {
              cutter = put.cutter;
              loose = refl;
              receiver_is = put.receiver;
              kept = put.area;
              bytes = put.bytes;
              packets = put.packets;
              left = refl;
            })
            (before.passed.2 world replay inputs ahead m),
      );
      idle = rw put.receiver step.idle;
      area = put.area;
      bytes = put.bytes ∙ before.bytes;
      packets = put.packets ∙ before.packets;
      cutter = put.cutter ∙ before.cutter;
      clock = omega (
        arith,
        ap (λ (r : ReceiverState). r.clock) put.receiver,
        step.clock,
        before.clock,
      );
      later = later_more _ _ _ before.later put.later;
    }

pub returns-in_err-put_piece-clause-stopped : goal.returns-in_err-put_piece-clause-stopped
returns-in_err-put_piece-clause-stopped g c =
    let before = c.steps.invariant in
    let step = c.in_ok-left.ensures in
    let more = c.steps.left - c.in_ok-left.left in
    let p = err_from_is_err_and c.from_residual-in_err-put_piece.result
    c.from_residual-in_err-put_piece.ensures.1 in
    rw (p.1, p.2) (λ world replay inputs ahead m.
    stops_step _ replay _
    (outside world (g.K.Keeper.told c.put_piece.new.keeper) (g.S.Sink.told c.put_piece.new.out))
    _ _ _ ahead _ _
    (joined_step replay _ _ _ inputs before.passed.0 more
    (c.law_of_passing_time.ensures.joined replay.read replay.selection replay.area _ inputs
    before.passed.0 more)
    (clock_step replay _ _ _ _ _ c.steps.left c.in_ok-left.left
    (c.law_of_standing_areas.ensures.time _ _ _ _ _) c.clear.ensures.items step.steps))
    before.area
    (first_ticked inputs (before.passed.0 + more) c.args.count
    (omega (arith, before.passed.1, step.fewer)))
    c.in_err-put_piece.ensures.stops refl (rw before.bytes c.requires.within)
    (before.passed.2 world replay inputs ahead m))

pub returns-clause-handled : goal.returns-clause-handled
returns-clause-handled g c =
    let before = c.steps.invariant in
    let all : before.passed.0 ≡ c.args.count = omega (arith, before.passed.1, c.steps-test.false) in
    λ world. subst (λ time. Passes time (moment c.args.self.now
    (outside world (g.K.Keeper.told c.args.keeper.now) (g.S.Sink.told c.args.out.now)))
    (moment c.steps.self
    (outside world (g.K.Keeper.told c.steps.keeper) (g.S.Sink.told c.steps.out)))) all
    (before.passed.2 world)

pub returns-in_err-put_piece-clause-later : goal.returns-in_err-put_piece-clause-later
returns-in_err-put_piece-clause-later g c =
    later_more _ _ _ c.steps.invariant.later c.in_err-put_piece.ensures.later
