use Rattle.std.proofs.Common.{◌≡◌, true, false, arith, ap, sym, ◌∙◌, length, length-append, refl}
use Rattle.ts_packets.specs.Packets.{packets_of}
use Rattle.replay_run.proofs.TakingLaws.{takes_more, takes_none, takes_same}
use Rattle.replay_run.proofs.generating.take_stream.Goals as goal

pub packets-init : goal.packets-init
packets-init c = record {
  idle = c.requires.idle;
  follows = λ ended. let clash : true ≡ false = sym ended ∙ c.new-cutter.ensures.ended in cc;
  within = omega (arith, ap length c.new-cutter.ensures.held);
  taken = takes_none _ _ _ _ _ refl c.new-cutter.ensures.held;
}

pub packets-preserved-in-Packet : goal.packets-preserved-in-Packet
packets-preserved-in-Packet c =
    let before = c.packets.invariant in
    let follows = λ (ended : c.seek.new.self.ended ≡ true).
    before.follows (sym c.seek.ensures.drops.ended ∙ ended) in
    record {
      idle = c.in_ok-take_packet-in-Packet.ensures.idle;
      follows = λ ended. follows (sym c.take_packet.ensures.ended ∙ ended);
      within = omega (arith, before.within, c.seek.ensures.drops.shorter, c.take_packet.ensures.shorter);
      taken = takes_more _ _ c.seek.new.self _ _ _ _ _ _ _ _ _
          (c.take_packet.ensures.gives c.packets.left.now follows)
          c.in_ok-take_packet-in-Packet.ensures.prints
          (takes_same _ _ _ _ _ _ _ _ _ _ (c.seek.ensures.gives c.packets.left.now before.follows)
          before.taken);
    }

pub packets-preserved : goal.packets-preserved
packets-preserved c =
    let before = c.packets.invariant in
    let held = c.feed-left.ensures.held in
    let lengths = simp length-append at (ap length held) in
    record {
      idle = before.idle;
      follows = c.feed-left.ensures.follows;
      within = omega (arith, before.within, c.seek.ensures.drops.shorter, lengths);
      taken = takes_same _ _ _ _ _ _ _ _ _ _
          (c.seek.ensures.gives c.packets.left.now before.follows ∙ ap packets_of (sym held))
          before.taken;
    }
