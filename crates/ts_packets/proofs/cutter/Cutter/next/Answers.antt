use Rattle.std.proofs.Common.{arith, [], ◌∷◌, ◌∙◌}
use Rattle.ts_packets.proofs.Following.{DropsFront-then, Gives-then}
use Rattle.ts_packets.proofs.Standing.{StandsFor-gives, StandsFor-whole}
use Rattle.ts_packets.proofs.cutter.Cutter.next.Goals as goal

pub returns-in-Packet-clause-gives : goal.returns-in-Packet-clause-gives
returns-in-Packet-clause-gives c =
    Gives-then _ c.seek.new.self c.take_packet.new.self [] (c.take_packet.result ∷ []) c.seek.ensures.drops.ended c.seek.ensures.gives c.take_packet.ensures.gives

pub returns-in-Packet-clause-drops : goal.returns-in-Packet-clause-drops
returns-in-Packet-clause-drops c =
    DropsFront-then _ c.seek.new.self _ c.seek.ensures.drops c.take_packet.ensures.held c.take_packet.ensures.shorter c.take_packet.ensures.ended

pub returns-in-Packet-clause-takes : goal.returns-in-Packet-clause-takes
returns-in-Packet-clause-takes c = λ _. omega (arith, c.seek.ensures.drops.shorter, c.take_packet.ensures.shorter)

pub returns-in-Packet-clause-stands : goal.returns-in-Packet-clause-stands
returns-in-Packet-clause-stands c = λ stream given stands.
    StandsFor-gives c.args.self.now c.take_packet.new.self stream given (c.take_packet.result ∷ [])
    (c.take_packet.ensures.ended ∙ c.seek.ensures.drops.ended)
    (Gives-then _ c.seek.new.self c.take_packet.new.self [] (c.take_packet.result ∷ []) c.seek.ensures.drops.ended c.seek.ensures.gives c.take_packet.ensures.gives)
    stands

pub returns-in-End-clause-whole : goal.returns-in-End-clause-whole
returns-in-End-clause-whole c = λ _ stream given stands. StandsFor-whole c.args.self.now stream given (c.seek.ensures.end.0 c.in-End.is).none stands
