use Rattle.std.proofs.Common.{◌∙◌, ap, sym, refl, Ok}
use Rattle.std.proofs.lemmas.Result.{err_from_is_err_and}
use Rattle.receiver_core.specs.Receiving.{ReceiverState}
use Rattle.replay_run.specs.Outside.{outside}
use Rattle.replay_run.proofs.ProgressLaws.{midway_quiet}
use Rattle.replay_run.proofs.PuttingLaws.{later_more, later_none}
use Rattle.replay_run.proofs.StepLaws.{midway_step, section_step, stops_step}
use Rattle.replay_run.proofs.StoppingLaws.{first_all, stops_within}
use Rattle.replay_run.proofs.player.Player.turns.Goals as goal

pub turns-init : goal.turns-init
turns-init g c = record {
  goes = λ world replay inputs ahead m. m;
  area = c.requires.area;
  bytes = refl;
  packets = refl;
  cutter = refl;
  clock = refl;
  later = later_none _;
}

pub returns-in_err-section_turn-clause-stops : goal.returns-in_err-section_turn-clause-stops
returns-in_err-section_turn-clause-stops g c =
    let p = err_from_is_err_and c.from_residual.result c.from_residual.ensures.1 in
    rw (p.1, p.2) (λ world replay inputs ahead m.
    stops_within replay _
    (outside world (g.K.Keeper.told c.turns.keeper) (g.S.Sink.told c.turns.out)) inputs inputs ahead
    (first_all inputs) refl refl (rw c.turns.invariant.bytes c.requires.within)
    (c.turns.invariant.goes world replay inputs ahead m))

pub turns-preserved : goal.turns-preserved
turns-preserved g c =
    let before = c.turns.invariant in
    let put = c.in_ok-put_piece-in-true.ensures in
    record {
      goes = λ world replay inputs ahead m.
          midway_step replay _ _ inputs inputs ahead _ _
          (section_step replay _ _ _ _ inputs (c.law_of_standing_areas.ensures.damaged _ _ _ _)
          c.clear.ensures.items (c.in_ok-section_turn.ensures.handled (ap Ok c.in-true.is)))
          before.area refl put.puts
          (record {
            cutter = put.cutter;
            loose = refl;
            receiver_is = put.receiver;
            kept = put.area;
            bytes = put.bytes;
            packets = put.packets;
            left = refl;
          })
          (before.goes world replay inputs ahead m);
      area = put.area;
      bytes = put.bytes ∙ before.bytes;
      packets = put.packets ∙ before.packets;
      cutter = put.cutter ∙ before.cutter;
      clock = ap (λ (r : ReceiverState). r.clock) put.receiver
          ∙ c.in_ok-section_turn.ensures.clock ∙ before.clock;
      later = later_more _ _ _ before.later put.later;
    }

pub returns-in_err-put_piece-in-true-clause-stops :
    goal.returns-in_err-put_piece-in-true-clause-stops
returns-in_err-put_piece-in-true-clause-stops g c =
    let before = c.turns.invariant in
    let p = err_from_is_err_and c.from_residual-in_err-put_piece-in-true.result
    c.from_residual-in_err-put_piece-in-true.ensures.1 in
    rw (p.1, p.2) (λ world replay inputs ahead m.
    stops_step _ replay _
    (outside world (g.K.Keeper.told c.put_piece.new.keeper) (g.S.Sink.told c.put_piece.new.out))
    inputs inputs inputs ahead _ _
    (section_step replay _ _ _ _ inputs (c.law_of_standing_areas.ensures.damaged _ _ _ _)
    c.clear.ensures.items (c.in_ok-section_turn.ensures.handled (ap Ok c.in-true.is)))
    before.area (first_all inputs) c.in_err-put_piece-in-true.ensures.stops refl
    (rw before.bytes c.requires.within) (before.goes world replay inputs ahead m))

pub returns-in-false-clause-goes : goal.returns-in-false-clause-goes
returns-in-false-clause-goes g c = λ world replay inputs ahead m.
    midway_quiet replay _ inputs inputs ahead c.section_turn.new.self
    (λ given s. (c.in_ok-section_turn.ensures.over (ap Ok c.in-false.is)).stays replay.read
    replay.selection replay.area inputs given s) refl
    (c.turns.invariant.goes world replay inputs ahead m)

pub returns-in-false-clause-area : goal.returns-in-false-clause-area
returns-in-false-clause-area g c =
    c.turns.invariant.area
    ∙ sym (c.law_of_standing_areas.ensures.over _ _ _ _
    (c.in_ok-section_turn.ensures.over (ap Ok c.in-false.is)))

pub returns-in_err-put_piece-in-true-clause-later :
    goal.returns-in_err-put_piece-in-true-clause-later
returns-in_err-put_piece-in-true-clause-later g c =
    later_more _ _ _ c.turns.invariant.later c.in_err-put_piece-in-true.ensures.later
