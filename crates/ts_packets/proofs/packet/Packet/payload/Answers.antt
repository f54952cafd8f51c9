use Rattle.ts_packets.proofs.PacketFields.{payload_of-whole}
use Rattle.ts_packets.proofs.packet.Packet.payload.Goals as goal

pub returns-in-1-clause-payload : goal.returns-in-1-clause-payload
returns-in-1-clause-payload c = rw (← c.self.view_is) (payload_of-whole _ c.self.invariant.size c.in-1.is)
