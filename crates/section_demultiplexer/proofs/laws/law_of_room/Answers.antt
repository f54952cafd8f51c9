use Rattle.section_demultiplexer.proofs.StandingLaws.{wanted_have_room}
use Rattle.section_demultiplexer.proofs.laws.law_of_room.Goals as goal

pub returns : goal.returns
returns c = wanted_have_room
