use Rattle.std.proofs.Common.{ap, refl}
use Rattle.std.proofs.lemmas.Result.{err_from_is_err_and, MatchResult-weaker}
use Rattle.replay_run.specs.Outside.{outside}
use Rattle.replay_run.proofs.PlayLaws.{packet_count-other}
use Rattle.replay_run.proofs.PuttingLaws.{later_none}
use Rattle.replay_run.proofs.StepLaws.{input_step, midway_step, no_packet, on_ok_two, stops_step}
use Rattle.replay_run.proofs.StoppingLaws.{first_all, first_pushed, stops_within}
use Rattle.replay_run.proofs.player.Player.play_input.Goals as goal

pub returns-clause-handled : goal.returns-clause-handled
returns-clause-handled g c =
    let put = c.put_piece.ensures in
    on_ok_two c.put_piece.result put.puts put.area (λ puts kept world replay inputs ahead m.
    midway_step replay _ _ inputs _ ahead _ _
    (input_step replay c.args.input _ _ _ _ inputs
    (λ silent. c.law_of_standing_areas.ensures.silent _ _ _ _ _ silent c.in_ok-input.ensures.answers)
    (λ silent. ap (λ v. v.items) (c.in_ok-input.ensures.silent silent)) c.requires.idle
    c.clear.ensures.items c.in_ok-input.ensures.answers)
    c.requires.area (packet_count-other inputs _ (no_packet c.args.input)) puts
    (record {
      cutter = put.cutter;
      loose = refl;
      receiver_is = put.receiver;
      kept = kept;
      bytes = put.bytes;
      packets = put.packets;
      left = refl;
    }) m)

pub returns-clause-stopped : goal.returns-clause-stopped
returns-clause-stopped g c =
    MatchResult-weaker c.put_piece.result c.put_piece.ensures.stops (λ x p. p)
    (λ status stops world replay inputs ahead m.
    stops_step status replay _
    (outside world (g.K.Keeper.told c.put_piece.new.keeper) (g.S.Sink.told c.put_piece.new.out))
    inputs _ _ ahead _ _
    (input_step replay c.args.input _ _ _ _ inputs
    (λ silent. c.law_of_standing_areas.ensures.silent _ _ _ _ _ silent c.in_ok-input.ensures.answers)
    (λ silent. ap (λ v. v.items) (c.in_ok-input.ensures.silent silent)) c.requires.idle
    c.clear.ensures.items c.in_ok-input.ensures.answers)
    c.requires.area (first_all _) stops refl c.requires.within m)

pub returns-in_err-input-clause-stopped : goal.returns-in_err-input-clause-stopped
returns-in_err-input-clause-stopped g c =
    let p = err_from_is_err_and c.from_residual.result c.from_residual.ensures.1 in
    rw (p.1, p.2) (λ world replay inputs ahead m.
    stops_within replay _
    (outside world (g.K.Keeper.told c.args.keeper.now) (g.S.Sink.told c.args.out.now)) inputs _ ahead
    (first_pushed inputs _) refl refl c.requires.within m)

pub returns-in_err-input-clause-later : goal.returns-in_err-input-clause-later
returns-in_err-input-clause-later g c = later_none _
