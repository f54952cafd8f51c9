use Rattle.section_demultiplexer.proofs.SinceLaws.{packets_are_since, since_from, to_since}
use Rattle.section_demultiplexer.proofs.laws.law_of_packets.Goals as goal

pub returns : goal.returns
returns c = record {
  calls = packets_are_since;
  places = λ told pid packet. (since_from told pid packet, λ p. to_since told pid packet p.0 p.1);
}
