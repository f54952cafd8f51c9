use Rattle.std.proofs.Common.{◌≡◌, ◌+◌, ◌∙◌, sym, ap, arith, refl, subst, Some, true, true≢false}
use Rattle.std.proofs.Common.{inl, inr}
use Rattle.std.proofs.lemmas.Result.{err_from_is_err_and}
use Rattle.ts_packets.specs.Packets.{packets_of}
use Rattle.receiver_core.specs.Receiving.{ReceiverState}
use Rattle.replay_run.specs.Midway.{Handles, TakesJust, item_of_count, moment}
use Rattle.replay_run.specs.Outside.{outside}
use Rattle.replay_run.proofs.BlankLaws.{waiting_behind}
use Rattle.replay_run.proofs.PlayLaws.{Allows, allows_more, front_of_taken, told_alike, told_apart}
use Rattle.replay_run.proofs.PlayLaws.{took_enough}
use Rattle.replay_run.proofs.PlayLaws.{took_less}
use Rattle.replay_run.proofs.ProgressLaws.{midway_ended, midway_loosely, midway_seek, midway_none}
use Rattle.replay_run.proofs.ProgressLaws.{midway_more, midway_over}
use Rattle.replay_run.proofs.PuttingLaws.{later_more, later_none, packet_read_further}
use Rattle.replay_run.proofs.StoppingLaws.{only_reads_none, only_reads_more, no_packets}
use Rattle.replay_run.proofs.StoppingLaws.{stops_further, stops_more, stream_stops, turns_unread}
use Rattle.replay_run.proofs.player.Player.take.Goals as goal

pub packets-init : goal.packets-init
packets-init g c = record {
  within = c.requires.within;
  idle = c.requires.idle;
  area = c.requires.area;
  clock = refl;
  readable = c.requires.readable;
  told = c.requires.told;
  was_open = λ e. e;
  reads = only_reads_none _ _;
  later = later_none _;
  last_read = inr refl;
  until = c.last_packet-last.ensures;
  taken = (
    0,
    omega arith,
    record { bound = λ n e. omega arith },
    λ replay inputs ahead m.
        midway_loosely replay _ _ _ (midway_none replay _ inputs ahead m),
    λ e replay inputs ahead m. midway_none replay _ inputs ahead m,
  );
}

pub packets-preserved-in-Continue-1 : goal.packets-preserved-in-Continue-1
packets-preserved-in-Continue-1 g c =
    let before = c.packets.invariant in
    let taken = c.in_ok-next_packet-in-Packet.ensures in
    let fewer : Allows c.args.most (before.taken.0 + 1) =
    took_less c.args.most _ _ _ before.taken.0 before.until before.taken.1
    (told_apart _ _ _ c.ne.ensures c.packets-test.true) before.taken.2 in
    record {
      within = rw taken.bytes before.within;
      idle = taken.idle;
      area = taken.area;
      clock = taken.clock ∙ before.clock;
      readable = λ e. before.readable (sym c.seek.ensures.drops.ended ∙ sym taken.ended ∙ e);
      told = before.told ∙ sym c.seek.ensures.drops.ended ∙ sym taken.ended;
      was_open = λ e. before.was_open (sym c.seek.ensures.drops.ended ∙ sym taken.ended ∙ e);
      reads = before.reads;
      later = later_more _ _ _ before.later taken.later;
      last_read = packet_read_further (item_of_count c.args.most) (moment c.args.self.now (outside (g.W.World.told c.args.world.now)
          (g.K.Keeper.told c.args.keeper.now) (g.S.Sink.told c.args.out.now))) (outside (g.W.World.told c.args.world.now) (g.K.Keeper.told c.args.keeper.now)
          (g.S.Sink.told c.args.out.now)) (outside (g.W.World.told c.packets.world) (g.K.Keeper.told c.packets.keeper)
          (g.S.Sink.told c.packets.out)) (outside (g.W.World.told c.packets.world) (g.K.Keeper.told c.next_packet.new.keeper)
          (g.S.Sink.told c.next_packet.new.out)) before.last_read refl taken.later;
      until = before.until;
      taken = (
        before.taken.0 + 1,
        omega (arith, taken.packets, before.taken.1),
        fewer,
        λ replay inputs ahead m. midway_loosely replay _ _ _
            (midway_more replay _ inputs ahead before.taken.0
            (taken.handled (g.W.World.told c.packets.world) replay _ _
            (midway_seek replay _ _ _ _ c.seek.ensures.gives c.seek.ensures.drops
            (before.taken.3 replay inputs ahead m)))),
        λ e replay inputs ahead m. midway_more replay _ inputs ahead before.taken.0
            (taken.handled (g.W.World.told c.packets.world) replay _ _
            (midway_seek replay _ _ _ _ c.seek.ensures.gives c.seek.ensures.drops
            (before.taken.3 replay inputs ahead m))),
      );
    }

pub returns-in_err-next_packet-in-Packet-clause-stopped :
    goal.returns-in_err-next_packet-in-Packet-clause-stopped
returns-in_err-next_packet-in-Packet-clause-stopped g c =
    let before = c.packets.invariant in
    let fewer : Allows c.args.most (before.taken.0 + 1) =
    took_less c.args.most _ _ _ before.taken.0 before.until before.taken.1
    (told_apart _ _ _ c.ne.ensures c.packets-test.true) before.taken.2 in
    let p = err_from_is_err_and c.from_residual.result c.from_residual.ensures.1 in
    rw (p.1, p.2) (λ replay inputs ahead m.
    stops_further _ replay _ _ _
    (front_of_taken inputs c.args.most (before.taken.0 + 1) ahead fewer)
    (stops_more _ replay _ inputs ahead before.taken.0
    (c.in_err-next_packet-in-Packet.ensures.stopped (g.W.World.told c.packets.world) replay _ _
    (midway_seek replay _ _ _ _ c.seek.ensures.gives c.seek.ensures.drops
    (before.taken.3 replay inputs ahead m)))))

pub packets-preserved : goal.packets-preserved
packets-preserved g c =
    let before = c.packets.invariant in
    let read = c.in_ok-read_stream-in-NeedMore.ensures in
    let waiting = c.seek.ensures.need_more.0 c.in-NeedMore.is in
    let fewer : Allows c.args.most (before.taken.0 + 1) =
    took_less c.args.most _ _ _ before.taken.0 before.until before.taken.1
    (told_apart _ _ _ c.ne.ensures c.packets-test.true) before.taken.2 in
    record {
      within = read.within;
      idle = rw read.receiver before.idle;
      area = read.kept ∙ before.area ∙ sym (ap (λ (receiver : ReceiverState). receiver.area) read.receiver);
      clock = ap (λ (receiver : ReceiverState). receiver.clock) read.receiver ∙ before.clock;
      readable = read.readable;
      told = read.told;
      was_open = λ e. before.was_open (c.seek.ensures.need_more.0 c.in-NeedMore.is).open_end;
      reads = only_reads_more _ _ _ _ before.reads read.reads;
      later = before.later;
      last_read = inl (
        read.gave.last,
        outside (g.W.World.told c.read_stream.new.world) (g.K.Keeper.told c.packets.keeper)
            (g.S.Sink.told c.packets.out),
        record {
          now = record (moment c.packets.self (outside (g.W.World.told c.packets.world)
              (g.K.Keeper.told c.packets.keeper) (g.S.Sink.told c.packets.out))) {
                cutter = c.seek.new.self;
                loose = true;
              };
          count = before.taken.0;
          takes = allows_more c.args.most before.taken.0 fewer;
          goes = λ replay inputs ahead m.
              midway_seek replay _ _ _ _ c.seek.ensures.gives c.seek.ensures.drops
              (before.taken.3 replay inputs ahead m);
          packets = before.taken.1;
          was_open = before.was_open waiting.open_end;
          waiting = waiting_behind _ _ c.seek.ensures.drops waiting;
          short = c.seek.ensures.room c.in-NeedMore.is;
          within = before.within;
          idle = before.idle;
          outlets_are = refl;
          consumed = read.gave.consumed;
          most = read.gave.most;
        },
        refl,
        later_none _,
      );
      until = before.until;
      taken = (
        before.taken.0,
        read.packets ∙ before.taken.1,
        before.taken.2,
        λ replay inputs ahead m. read.goes (g.K.Keeper.told c.packets.keeper)
            (g.S.Sink.told c.packets.out) replay _ _
            (midway_seek replay _ _ _ _ c.seek.ensures.gives c.seek.ensures.drops
            (before.taken.3 replay inputs ahead m)),
        λ e. absurd (told_apart _ _ _ c.ne.ensures c.packets-test.true
            (e ∙ ap Some read.packets)),
      );
    }

pub returns-in_err-read_stream-in-NeedMore-clause-stopped :
    goal.returns-in_err-read_stream-in-NeedMore-clause-stopped
returns-in_err-read_stream-in-NeedMore-clause-stopped g c =
    let before = c.packets.invariant in
    let p = err_from_is_err_and c.from_residual-in_err-read_stream-in-NeedMore.result
    c.from_residual-in_err-read_stream-in-NeedMore.ensures.1 in
    rw (p.1, p.2) (λ replay inputs ahead m.
    stops_further _ replay _ _ _
    (front_of_taken inputs c.args.most before.taken.0 ahead before.taken.2)
    (c.in_err-read_stream-in-NeedMore.ensures.stops (g.K.Keeper.told c.packets.keeper)
    (g.S.Sink.told c.packets.out) replay _ _
    (midway_seek replay _ _ _ _ c.seek.ensures.gives c.seek.ensures.drops
    (before.taken.3 replay inputs ahead m))))

pub returns-in-End-clause-handled : goal.returns-in-End-clause-handled
returns-in-End-clause-handled g c = λ replay inputs ahead m.
    let before = c.packets.invariant in
    let over = c.seek.ensures.end.0 c.in-End.is in
    midway_ended replay _ _ _ (c.seek.ensures.drops.ended ∙ over.ended)
    (midway_over replay _ inputs ahead c.args.most before.taken.0
    (c.seek.ensures.drops.ended ∙ over.ended)
    (ap packets_of (c.seek.ensures.empty c.in-End.is) ∙ no_packets) before.taken.2
    (midway_seek replay _ _ _ _ c.seek.ensures.gives c.seek.ensures.drops
    (before.taken.3 replay inputs ahead m)))

pub returns-in_err-read_stream-in-NeedMore-clause-reads :
    goal.returns-in_err-read_stream-in-NeedMore-clause-reads
returns-in_err-read_stream-in-NeedMore-clause-reads g c =
    only_reads_more _ _ _ _ c.packets.invariant.reads c.in_err-read_stream-in-NeedMore.ensures.reads

pub returns-clause-handled : goal.returns-clause-handled
returns-clause-handled g c =
    let before = c.packets.invariant in
    let same : Some before.taken.0 ≡ c.args.most = sym (took_enough c.args.most _ _ _ before.taken.0
    before.until before.taken.1 (told_alike _ _ _ c.ne.ensures c.packets-test.false)) in
    subst (λ most. Handles (item_of_count most) (moment c.args.self.now
    (outside (g.W.World.told c.args.world.now) (g.K.Keeper.told c.args.keeper.now)
    (g.S.Sink.told c.args.out.now)))
    (moment c.packets.self (outside (g.W.World.told c.packets.world)
    (g.K.Keeper.told c.packets.keeper) (g.S.Sink.told c.packets.out)))) same
    (before.taken.4 (told_alike _ _ _ c.ne.ensures c.packets-test.false))

pub returns-in-End-clause-takes : goal.returns-in-End-clause-takes
returns-in-End-clause-takes g c = λ e.
    let over = c.seek.ensures.end.0 c.in-End.is in
    absurd (true≢false (sym (c.seek.ensures.drops.ended ∙ over.ended) ∙ e))

pub returns-clause-takes : goal.returns-clause-takes
returns-clause-takes g c = λ e.
    let before = c.packets.invariant in
    let same : Some before.taken.0 ≡ c.args.most = sym (took_enough c.args.most _ _ _ before.taken.0
    before.until before.taken.1 (told_alike _ _ _ c.ne.ensures c.packets-test.false)) in
    subst (λ most. TakesJust (item_of_count most) c.args.self.now.packets c.packets.self.packets) same
    before.taken.1

pub returns-in_err-next_packet-in-Packet-clause-reading :
    goal.returns-in_err-next_packet-in-Packet-clause-reading
returns-in_err-next_packet-in-Packet-clause-reading g c =
    let p = err_from_is_err_and c.from_residual.result c.from_residual.ensures.1 in
    rw (p.1, p.2) (turns_unread _ _ _ _ _ _ c.in_err-next_packet-in-Packet.ensures.cause)

pub returns-in_err-read_stream-in-NeedMore-clause-reading :
    goal.returns-in_err-read_stream-in-NeedMore-clause-reading
returns-in_err-read_stream-in-NeedMore-clause-reading g c =
    let before = c.packets.invariant in
    let waiting = c.seek.ensures.need_more.0 c.in-NeedMore.is in
    let fewer : Allows c.args.most (before.taken.0 + 1) =
    took_less c.args.most _ _ _ before.taken.0 before.until before.taken.1
    (told_apart _ _ _ c.ne.ensures c.packets-test.true) before.taken.2 in
    let p = err_from_is_err_and c.from_residual-in_err-read_stream-in-NeedMore.result
    c.from_residual-in_err-read_stream-in-NeedMore.ensures.1 in
    rw (p.1, p.2) (stream_stops _ _ _ _ _ _
    (λ last consumed most. (
      record {
        now = record (moment c.packets.self (outside (g.W.World.told c.packets.world)
            (g.K.Keeper.told c.packets.keeper) (g.S.Sink.told c.packets.out))) {
              cutter = c.seek.new.self;
              loose = true;
            };
        count = before.taken.0;
        takes = allows_more c.args.most before.taken.0 fewer;
        goes = λ replay inputs ahead m.
            midway_seek replay _ _ _ _ c.seek.ensures.gives c.seek.ensures.drops
            (before.taken.3 replay inputs ahead m);
        packets = before.taken.1;
        was_open = before.was_open waiting.open_end;
        waiting = waiting_behind _ _ c.seek.ensures.drops waiting;
        short = c.seek.ensures.room c.in-NeedMore.is;
        within = before.within;
        idle = before.idle;
        outlets_are = refl;
        consumed = consumed;
        most = most;
      },
      refl,
    )) c.in_err-read_stream-in-NeedMore.ensures.last)

-- ---- the last read

pub returns-in_err-next_packet-in-Packet-clause-last_read :
    goal.returns-in_err-next_packet-in-Packet-clause-last_read
returns-in_err-next_packet-in-Packet-clause-last_read g c =
    packet_read_further (item_of_count c.args.most) (moment c.args.self.now (outside (g.W.World.told c.args.world.now)
    (g.K.Keeper.told c.args.keeper.now) (g.S.Sink.told c.args.out.now))) (outside (g.W.World.told c.args.world.now) (g.K.Keeper.told c.args.keeper.now)
    (g.S.Sink.told c.args.out.now)) (outside (g.W.World.told c.packets.world) (g.K.Keeper.told c.packets.keeper)
    (g.S.Sink.told c.packets.out)) (outside (g.W.World.told c.packets.world) (g.K.Keeper.told c.next_packet.new.keeper)
    (g.S.Sink.told c.next_packet.new.out)) c.packets.invariant.last_read refl
    c.in_err-next_packet-in-Packet.ensures.later

pub returns-in_err-next_packet-in-Packet-clause-later :
    goal.returns-in_err-next_packet-in-Packet-clause-later
returns-in_err-next_packet-in-Packet-clause-later g c =
    later_more _ _ _ c.packets.invariant.later c.in_err-next_packet-in-Packet.ensures.later

pub returns-in_err-read_stream-in-NeedMore-clause-last_read :
    goal.returns-in_err-read_stream-in-NeedMore-clause-last_read
returns-in_err-read_stream-in-NeedMore-clause-last_read g c =
    let before = c.packets.invariant in
    let gave = c.in_err-read_stream-in-NeedMore.ensures.gave in
    let waiting = c.seek.ensures.need_more.0 c.in-NeedMore.is in
    let fewer : Allows c.args.most (before.taken.0 + 1) =
    took_less c.args.most _ _ _ before.taken.0 before.until before.taken.1
    (told_apart _ _ _ c.ne.ensures c.packets-test.true) before.taken.2 in
    inl (
      gave.last,
      outside (g.W.World.told c.read_stream.new.world) (g.K.Keeper.told c.packets.keeper)
          (g.S.Sink.told c.packets.out),
      record {
        now = record (moment c.packets.self (outside (g.W.World.told c.packets.world)
            (g.K.Keeper.told c.packets.keeper) (g.S.Sink.told c.packets.out))) {
              cutter = c.seek.new.self;
              loose = true;
            };
        count = before.taken.0;
        takes = allows_more c.args.most before.taken.0 fewer;
        goes = λ replay inputs ahead m.
            midway_seek replay _ _ _ _ c.seek.ensures.gives c.seek.ensures.drops
            (before.taken.3 replay inputs ahead m);
        packets = before.taken.1;
        was_open = before.was_open waiting.open_end;
        waiting = waiting_behind _ _ c.seek.ensures.drops waiting;
        short = c.seek.ensures.room c.in-NeedMore.is;
        within = before.within;
        idle = before.idle;
        outlets_are = refl;
        consumed = gave.consumed;
        most = gave.most;
      },
      refl,
      later_none _,
    )
