use Rattle.std.proofs.Common.{◌≡◌, ◌≤◌, ◌+◌, ◌++◌, ◌∙◌, sym, ap, refl, subst, length, take, arith, []}
use Rattle.std.proofs.Common.{length-append, true}
use Rattle.std.proofs.KnownBytes.{Consumes-kept, Consumes-nil}
use Rattle.std.proofs.lemmas.List.{take_all}
use Rattle.replay_run.specs.Needs.{most_ahead}
use Rattle.replay_run.specs.Outside.{outside}
use Rattle.replay_run.specs.Progress.{IsMidway}
use Rattle.replay_run.specs.Putting.{outlets}
use Rattle.replay_run.proofs.ProgressLaws.{midway_read}
use Rattle.replay_run.proofs.StoppingLaws.{stops_unread, stops_long, consumed_some}
use Rattle.replay_run.proofs.player.Player.read_stream.Goals as goal

pub returns-then-self-gt-STREAM_LIMIT-clause-stops :
    goal.returns-then-self-gt-STREAM_LIMIT-clause-stops
returns-then-self-gt-STREAM_LIMIT-clause-stops g c = λ keeper sink replay inputs ahead m.
    stops_long replay _ (outside (g.W.World.told c.read_port.new.self) keeper sink) inputs ahead _
    c.in-Ok.count
    (sym c.in-Ok.ensures.count.1) c.if-self-gt-STREAM_LIMIT.true c.in-Ok.ensures.bytes.0 m

pub returns-in-Err-clause-stops : goal.returns-in-Err-clause-stops
returns-in-Err-clause-stops g c = λ keeper sink replay inputs ahead m.
    stops_unread replay _ (outside (g.W.World.told c.read_port.new.self) keeper sink) inputs ahead
    c.requires.within c.in-Err.ensures.bytes m

pub returns-else-self-gt-STREAM_LIMIT-clause-goes :
    goal.returns-else-self-gt-STREAM_LIMIT-clause-goes
returns-else-self-gt-STREAM_LIMIT-clause-goes g c =
    let bytes = take c.in-Ok.count c.read_port.new.buf in
    let size : length bytes ≡ c.in-Ok.count = sym c.in-Ok.ensures.count.1 in
    let room : c.feed.result ≡ length bytes =
    omega (arith, c.feed.ensures.count, c.requires.waiting, size, c.in-Ok.ensures.count.0) in
    let held : c.feed.new.self.held ≡ c.args.self.now.cutter.held ++ bytes =
    c.feed.ensures.held ∙ ap (λ n. c.args.self.now.cutter.held ++ take n bytes) room
    ∙ ap (λ l. c.args.self.now.cutter.held ++ l) (take_all (length bytes) bytes (omega arith)) in
    let few : length c.feed.new.self.held ≤ most_ahead =
    omega (
      arith,
      ap length held,
      length-append c.args.self.now.cutter.held bytes,
      c.requires.waiting,
      size,
      c.in-Ok.ensures.count.0,
    ) in
    λ keeper sink replay inputs ahead m.
    subst (λ n. IsMidway replay (record {
      cutter = c.feed.new.self;
      loose = true;
      receiver = c.args.self.now.receiver;
      kept = c.args.self.now.kept;
      bytes = c.args.self.now.bytes + n;
      packets = c.args.self.now.packets;
      left = (g.W.World.told c.read_port.new.self).stream.left;
      outlets = outlets keeper sink;
    }) inputs ahead) size
    (midway_read replay _ inputs ahead _ _ bytes (consumed_some bytes _ _ c.in-Ok.ensures.bytes.0)
    c.requires.open_end held c.feed.ensures.ended few m)

pub returns-in-Err-clause-last : goal.returns-in-Err-clause-last
returns-in-Err-clause-last g c = record {
  last = [];
  consumed = Consumes-kept _ _ _ [] (Consumes-nil _) c.in-Err.ensures.bytes;
  most = omega arith;
  failed = λ e. (refl, c.in-Err.ensures.counted.last);
  long = λ e. absurd (cc);
}

pub returns-then-self-gt-STREAM_LIMIT-clause-last :
    goal.returns-then-self-gt-STREAM_LIMIT-clause-last
returns-then-self-gt-STREAM_LIMIT-clause-last g c =
    let bytes = take c.in-Ok.count c.read_port.new.buf in
    let size : length bytes ≡ c.in-Ok.count = sym c.in-Ok.ensures.count.1 in
    record {
      last = bytes;
      consumed = c.in-Ok.ensures.bytes.0;
      most = omega (arith, size, c.in-Ok.ensures.count.0);
      failed = λ e. absurd (cc);
      long = λ e. omega (arith, c.if-self-gt-STREAM_LIMIT.true, size);
    }

pub returns-in-Err-clause-gave : goal.returns-in-Err-clause-gave
returns-in-Err-clause-gave g c = record {
  last = [];
  consumed = Consumes-kept _ _ _ [] (Consumes-nil _) c.in-Err.ensures.bytes;
  most = omega arith;
}

pub returns-then-self-gt-STREAM_LIMIT-clause-gave :
    goal.returns-then-self-gt-STREAM_LIMIT-clause-gave
returns-then-self-gt-STREAM_LIMIT-clause-gave g c =
    let bytes = take c.in-Ok.count c.read_port.new.buf in
    let size : length bytes ≡ c.in-Ok.count = sym c.in-Ok.ensures.count.1 in
    record {
      last = bytes;
      consumed = c.in-Ok.ensures.bytes.0;
      most = omega (arith, size, c.in-Ok.ensures.count.0);
    }

pub returns-else-self-gt-STREAM_LIMIT-clause-gave :
    goal.returns-else-self-gt-STREAM_LIMIT-clause-gave
returns-else-self-gt-STREAM_LIMIT-clause-gave g c =
    let bytes = take c.in-Ok.count c.read_port.new.buf in
    let size : length bytes ≡ c.in-Ok.count = sym c.in-Ok.ensures.count.1 in
    record {
      last = bytes;
      consumed = c.in-Ok.ensures.bytes.0;
      most = omega (arith, size, c.in-Ok.ensures.count.0);
    }
