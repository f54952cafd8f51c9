use Rattle.std.proofs.Common.{◌<◌, map}
use Rattle.section_writer.specs.Received.{IsStreamOf}
use Rattle.carousel_writer.specs.Messages.{message_section}
use Rattle.carousel_writer.specs.Streams.{round_of, rounds_of}
use Rattle.carousel_writer.proofs.streams.bytes_of_stream.Given as goal

abbrev pub invariant-rounds : goal.invariant-rounds
invariant-rounds l = record {
  sent : IsStreamOf l.out.items l.files.pid l.next (map message_section (rounds_of l.round (round_of l.files)));
  small : l.next < 16;
}
