use Rattle.ts_packets.proofs.PacketList.{packets_of-joined}
use Rattle.ts_packets.proofs.laws.packets_laid_end_to_end.Goals as goal

pub returns : goal.returns
returns c = packets_of-joined
