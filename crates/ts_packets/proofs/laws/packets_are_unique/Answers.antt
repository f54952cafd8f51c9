use Rattle.ts_packets.proofs.PacketList.{ArePackets-unique}
use Rattle.ts_packets.proofs.laws.packets_are_unique.Goals as goal

pub returns : goal.returns
returns c = λ bytes packets h. ArePackets-unique packets bytes h
