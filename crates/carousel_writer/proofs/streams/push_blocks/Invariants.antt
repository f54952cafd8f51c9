use Rattle.std.proofs.Common.{◌<◌, map}
use Rattle.std.specs.List.{range_with_len}
use Rattle.carousel_blocks.specs.Message.{Data}
use Rattle.carousel_writer.specs.Streams.{block_of}
use Rattle.carousel_writer.specs.Messages.{message_section}
use Rattle.carousel_writer.specs.devices.Appending.{AppendsSections}
use Rattle.carousel_writer.proofs.streams.push_blocks.Given as goal

abbrev pub invariant-loop-number : goal.invariant-loop-number
invariant-loop-number l = record {
  sent : AppendsSections l.fn.out.items l.counter l.out.items l.next l.files.pid (map message_section (map Data (map (block_of l.files l.file) (range_with_len 0 l.number))));
  small : l.next < 16;
}
