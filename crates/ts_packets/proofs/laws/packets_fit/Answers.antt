use Rattle.ts_packets.proofs.PacketList.{packets_of-IsPacket, length-packets_of}
use Rattle.ts_packets.proofs.laws.packets_fit.Goals as goal

pub returns-clause-packets : goal.returns-clause-packets
returns-clause-packets c = packets_of-IsPacket

pub returns-clause-apart : goal.returns-clause-apart
returns-clause-apart c = length-packets_of
