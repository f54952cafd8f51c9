use Rattle.ts_packets.proofs.PacketList.{ArePackets-computed}
use Rattle.ts_packets.proofs.laws.packets_are_computed.Goals as goal

pub returns : goal.returns
returns c = ArePackets-computed
