use Rattle.std.proofs.Common.{refl, sym, rules}
use Rattle.std.proofs.lemmas.Result.{on_ok_weaker, MatchResult-weaker}
use Rattle.replay_run.proofs.ProgressLaws.{midway_packet}
use Rattle.replay_run.proofs.PuttingLaws.{later_none}
use Rattle.replay_run.proofs.player.Player.next_packet.Goals as goal

pub returns-then-not-wants-clause-handled : goal.returns-then-not-wants-clause-handled
returns-then-not-wants-clause-handled g c = λ world replay inputs ahead m.
    midway_packet replay _ inputs ahead _ _ _ c.skip_packet.ensures.gives c.skip_packet.ensures.ended
    c.skip_packet.ensures.held refl
    (c.wants.ensures.passes (search rules) c.requires.idle _ (sym c.front_pid.ensures)
    replay.read replay.selection replay.area) m

pub returns-clause-handled : goal.returns-clause-handled
returns-clause-handled g c = on_ok_weaker c.turns.result
    (λ goes world replay inputs ahead m. goes world replay _ _
    (midway_packet replay _ inputs ahead _ _ _
    c.take_packet-packet.ensures.gives c.take_packet-packet.ensures.ended
    c.take_packet-packet.ensures.held c.take_packet-packet.ensures.packet
    (c.wanted_packet.ensures.taken replay.read replay.selection replay.area) m))
    c.turns.ensures.goes

pub returns-clause-stopped : goal.returns-clause-stopped
returns-clause-stopped g c = MatchResult-weaker c.turns.result c.turns.ensures.stops (λ x p. p)
    (λ status stops world replay inputs ahead m. stops world replay _ _
    (midway_packet replay _ inputs ahead _ _ _
    c.take_packet-packet.ensures.gives c.take_packet-packet.ensures.ended
    c.take_packet-packet.ensures.held c.take_packet-packet.ensures.packet
    (c.wanted_packet.ensures.taken replay.read replay.selection replay.area) m))

pub returns-then-not-wants-clause-later : goal.returns-then-not-wants-clause-later
returns-then-not-wants-clause-later g c = later_none _
