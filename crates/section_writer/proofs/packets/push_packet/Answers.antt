use Rattle.section_writer.proofs.Carrying.{cut-one}
use Rattle.section_writer.proofs.packets.push_packet.Goals as goal

pub returns-clause-cut : goal.returns-clause-cut
returns-clause-cut c = cut-one c.laws_below.ensures _ _ _ _ _ c.requires.size c.in_ok-append_packet.ensures.bytes
